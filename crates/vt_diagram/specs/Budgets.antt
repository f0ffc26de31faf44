use Rattle.std.specs.Prelude.{ℕ, ◌-◌, ◌≤◌, List, Option, Some, None}
use Rattle.vt_dec.specs.declared.side.Side.{Side}
use Rattle.vt_dec.specs.declared.side.Space.{Space}
use Rattle.vt_dec.specs.declared.side.Space.TheVariants.{All, AtMost}
use Rattle.vt_dec.specs.Decisions.{rights}

-- no more dimensions are Right than a budget has, where there is one
abbrev pub IsWithin : Option ℕ → List Side → Type 0
IsWithin None decision = Unit {0}
IsWithin (Some budget) decision = rights decision ≤ budget

abbrev pub budget_of : Space → Option ℕ
budget_of All = None
budget_of (AtMost budget) = Some budget

-- what is left of a budget after a Right
abbrev pub spent : Option ℕ → Option ℕ
spent None = None
spent (Some budget) = Some (budget - 1)
