use Rattle.std.specs.Prelude.{◌≡◌, ℕ, ◌+◌, ◌<◌, List}
use Rattle.std.specs.List.{All}
use Rattle.vt_dec.specs.declared.side.Side.{Side}
use Rattle.vt_dec.specs.declared.fate.Fate.TheVariants.{Alive}
use Rattle.vt_dec.specs.Decisions.{Region}
use Rattle.vt_type.specs.declared.plain.Plain.{Plain}
use Rattle.vt_store.specs.Patterns.{FateMap, fate_at}
use Rattle.vt_store.specs.Solutions.{Solves}
use Rattle.vt_store.specs.Stores.{Cells, cell_count, ends_at}
use Rattle.vt_store.specs.Writes.{IsOf}
use Rattle.vt_unify.specs.declared.pairs.Pair.{Pair}
use Rattle.vt_unify.specs.declared.seen.Seen.{Seen}
use Rattle.vt_unify.specs.Weights.{weight}
use Rattle.vt_unify.specs.Equations.{Equation, HoldsAt}
use Rattle.vt_unify.specs.Pairs.{IsKnown, equation_of}
use Rattle.vt_unify.specs.Seen.{Remembers}

-- the weight of both cells at a decision
abbrev pub equation_weight : Cells → List Side → Equation → ℕ
equation_weight store decision equation = weight (ends_at store decision) (cell_count store) equation.left + weight (ends_at store decision) (cell_count store) equation.right

-- the equation holds, if it is so light
abbrev pub HoldsBelow : Cells → List Side → (ℕ → Plain) → ℕ → Equation → Type 0
HoldsBelow store decision s most equation = equation_weight store decision equation < most → HoldsAt decision s equation

-- Wherever the lighter ones of some equations hold, this one does: nothing is lost if it is not among them.
abbrev pub IsCarried : ℕ → Cells → FateMap → List Equation → Equation → Type 0
IsCarried N store pattern others equation =
    (decision : List Side) → IsOf N store.space decision → fate_at pattern decision ≡ Alive → (s : ℕ → Plain) → Solves (cell_count store) (ends_at store decision) s
    → All (HoldsBelow store decision s (equation_weight store decision equation)) others → HoldsAt decision s equation

-- each pair that was taken apart is carried by those that are left
abbrev pub AreCarried : ℕ → Cells → FateMap → Region → List Region → List Equation → Seen → Type 0
AreCarried N store pattern whole narrowed others seen =
    (pair : Pair) → Remembers seen pair → IsKnown narrowed pair × IsCarried N store pattern others (equation_of whole narrowed pair)
