use Rattle.std.specs.Prelude.{◌≡◌, ℕ, ◌<◌, List, AllPairs, Contains, Some, slice_get, map}
use Rattle.std.specs.List.{All}
use Rattle.vt_syntax.specs.declared.core_expr.Core.{Core}
use Rattle.vt_syntax.specs.declared.leaf.Leaf.{Leaf}
use Rattle.vt_type.specs.declared.change.ChangeLine.{ChangeLine}
use Rattle.vt_type.specs.Constants.{Constant}
use Rattle.vt_rules.specs.Changes.{Cures, IsChangeOf}
use Rattle.vt_change.specs.Curing.{IsSmall, AreFormed, IsTooBig}

-- The changes of leaves, one after the other.

-- none of the first so many leaves has a change that is too big
abbrev pub NoneTooBig : List Constant → Core → List Leaf → ℕ → Type 0
NoneTooBig K program leaves count = (number : ℕ) (leaf : Leaf) → number < count → slice_get leaves number ≡ Some leaf → IsTooBig K program leaf → ⊥

-- the first leaf that has a change that is too big
pub record IsFirstTooBig (K : List Constant) (program : Core) (leaves : List Leaf) (number : ℕ) : Type 0 where
  pub leaf : Leaf
  pub found : slice_get leaves number ≡ Some leaf
  pub too_big : IsTooBig K program leaf
  pub first : NoneTooBig K program leaves number

-- The changes of exactly those of the first so many leaves that cure, in the order of the leaves.
pub record AreListed (K : List Constant) (program : Core) (leaves : List Leaf) (count : ℕ) (lines : List ChangeLine) : Type 0 where
  pub lines_are : All (λ line. (leaf : Leaf) × (slice_get leaves line.leaf ≡ Some leaf) × IsChangeOf K program leaf line) lines
  pub complete : (number : ℕ) (leaf : Leaf) → number < count → slice_get leaves number ≡ Some leaf → Cures K program leaf → Contains (map (λ line. line.leaf) lines) number
  pub below : All (λ line. line.leaf < count) lines
  pub rise : AllPairs (λ one other. one.leaf < other.leaf) lines
  pub small : All IsSmall lines
  pub formed : All AreFormed lines
  pub none_too_big : NoneTooBig K program leaves count
