use Rattle.std.specs.Prelude.{◌≡◌, ℕ, ◌+◌, ◌<◌, ◌≤◌, List, Option, Some, None, length, slice_get}
use Rattle.vt_dec.specs.declared.side.Side.{Side}
use Rattle.vt_dec.specs.declared.side.Side.TheVariants.{Left, Right}

-- What a diagram says, whatever table it stands in: one value, or a choice by a dimension.
pub data Tree : Type 0 where
  Tip : (value : ℕ) → Tree
  Fork : (dim : ℕ) (left right : Tree) → Tree

-- one of two, by the side that is taken
abbrev pub by_side : {A : Type 0} → Option Side → A → A → A
by_side None left right = left
by_side (Some Left) left right = left
by_side (Some Right) left right = right

-- the value at a decision
abbrev pub value_in : List Side → Tree → ℕ
value_in decision (Tip value) = value
value_in decision (Fork dim left right) = by_side (slice_get decision dim) (value_in decision left) (value_in decision right)

-- dimensions rise on every way down, from one on and below a bound
abbrev pub IsOrdered : ℕ → ℕ → Tree → Type 0
IsOrdered bound from (Tip value) = Unit {0}
IsOrdered bound from (Fork dim left right) = (from ≤ dim) × (dim < bound) × IsOrdered bound (dim + 1) left × IsOrdered bound (dim + 1) right

-- two diagrams have one value at every decision
abbrev pub Agree : ℕ → Tree → Tree → Type 0
Agree bound one other = (decision : List Side) → length decision ≡ bound → value_in decision one ≡ value_in decision other
