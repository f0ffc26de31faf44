use Rattle.std.specs.Prelude.{◌≡◌, ℕ, ◌<◌, List, Option}
use Rattle.vt_dec.specs.declared.side.Side.{Side}
use Rattle.vt_dec.specs.declared.side.Space.{Space}
use Rattle.vt_dec.specs.declared.fate.Fate.{Fate}
use Rattle.vt_dec.specs.declared.fate.Fate.TheVariants.{Alive, Dead}
use Rattle.vt_dec.specs.Decisions.{Region, Admits}
use Rattle.vt_store.specs.declared.fates.Fates.{Fates}
use Rattle.vt_store.specs.Fates.{fate_in, PassesFates, killed}
use Rattle.vt_store.specs.Branches.{IsLeastBranch}
use Rattle.vt_store.specs.Writes.{IsOf}

-- A pattern, as contracts see it. They speak of `fate_at` and of its space, and not of its diagram.
pub record FateMap : Type 0 where
  pub fates : Fates
  pub space : Space

-- the fate of a decision
abbrev pub fate_at : FateMap → List Side → Fate
fate_at pattern decision = fate_in decision pattern.fates

-- a decision with this fate is shown where all nodes up to a mark are looked at: it is alive, or dead only later
abbrev pub IsShown : ℕ → Fate → Type 0
IsShown mark Alive = Unit {0}
IsShown mark (Dead node) = mark < node

-- what is alive in the context is dead with the node, and all other decisions of the space stay
pub record IsMasked (N : ℕ) (region : Region) (node : ℕ) (old new : FateMap) : Type 0 where
  pub admitted : (decision : List Side) → Admits region decision → fate_at new decision ≡ killed node (fate_at old decision)
  pub others : (decision : List Side) → IsOf N old.space decision → (Admits region decision → ⊥) → fate_at new decision ≡ fate_at old decision
  pub space : new.space ≡ old.space

-- the least dimension on which the fates branch within a context; none where there is none
abbrev pub IsFateBranch : FateMap → Region → Option ℕ → Type 0
IsFateBranch pattern region found = IsLeastBranch region (PassesFates pattern.fates) found

-- all decisions that a context admits have one fate
abbrev pub IsOneFate : FateMap → Region → Type 0
IsOneFate pattern region = (one other : List Side) → Admits region one → Admits region other → fate_at pattern one ≡ fate_at pattern other
