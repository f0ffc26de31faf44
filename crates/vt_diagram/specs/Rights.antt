use Rattle.std.specs.Prelude.{◌≡◌, ℕ, zero, suc, ◌+◌, ◌<◌, List, min, Option, Some, None, length, slice_get}
use Rattle.vt_dec.specs.declared.side.Side.{Side}
use Rattle.vt_dec.specs.declared.side.Side.TheVariants.{Left}
use Rattle.vt_dec.specs.Decisions.{rights}
use Rattle.vt_diagram.specs.Trees.{Tree, Tip, Fork, value_in}

-- How few dimensions a decision can take Right where a diagram is not 0; none where it is 0 everywhere.

-- the less of two numbers, of those that are there
abbrev pub fewer : Option ℕ → Option ℕ → Option ℕ
fewer None other = other
fewer (Some one) None = Some one
fewer (Some one) (Some other) = Some (min one other)

abbrev pub one_more : Option ℕ → Option ℕ
one_more None = None
one_more (Some count) = Some (count + 1)

abbrev pub none_at_zero : ℕ → Option ℕ
none_at_zero zero = None
none_at_zero (suc value) = Some 0

abbrev pub fewest_in : Tree → Option ℕ
fewest_in (Tip value) = none_at_zero value
fewest_in (Fork dim left right) = fewer (fewest_in left) (one_more (fewest_in right))

-- a decision with so many Rights at which the diagram is not 0; it takes Left below where the diagram begins
pub record IsWitness (bound from count : ℕ) (tree : Tree) (decision : List Side) : Type 0 where
  pub long : length decision ≡ bound
  pub rights_are : rights decision ≡ count
  pub some : value_in decision tree ≡ 0 → ⊥
  pub lefts : (dim : ℕ) → dim < from → dim < bound → slice_get decision dim ≡ Some Left
