use Rattle.std.proofs.Common.{◌≡◌, ℕ, zero, suc, ◌+◌, ◌<◌, ◌≤◌, List, [], ◌∷◌, length, replicate, set, slice_get, Option, Some, None, refl, ap, ◌∙◌, arith}
use Rattle.vt_dec.specs.declared.side.Side.{Side}
use Rattle.vt_dec.specs.declared.side.Side.TheVariants.{Left, Right}
use Rattle.vt_dec.specs.Decisions.{rights}
use Rattle.vt_dec.proofs.Slices.{slice_get-set_same, slice_get-set_other}
use Rattle.vt_diagram.specs.Trees.{Tree, Tip, Fork, value_in, IsOrdered, by_side}

-- Sides of a decision, and what a diagram sees of them.

pub by_side-same : {A : Type 0} (side : Option Side) (x : A) → by_side side x x ≡ x
by_side-same None x = refl
by_side-same (Some Left) x = refl
by_side-same (Some Right) x = refl

-- with no Right, each dimension takes the left one
pub by_side-no_right : {A : Type 0} (decision : List Side) (dim : ℕ) (left right : A) → rights decision ≤ 0 → by_side (slice_get decision dim) left right ≡ left
by_side-no_right [] dim left right none = refl
by_side-no_right (Left ∷ decision) zero left right none = refl
by_side-no_right (Left ∷ decision) (suc dim) left right none = by_side-no_right decision dim left right none
by_side-no_right (Right ∷ decision) dim left right none = absurd (omega arith)

-- ---- one side changed

pub rights-to_left : (decision : List Side) (dim : ℕ) → slice_get decision dim ≡ Some Right → rights (set decision dim Left) + 1 ≡ rights decision
rights-to_left [] dim takes = absurd cc
rights-to_left (Left ∷ decision) zero takes = absurd cc
rights-to_left (Right ∷ decision) zero takes = omega arith
rights-to_left (Left ∷ decision) (suc dim) takes = rights-to_left decision dim takes
rights-to_left (Right ∷ decision) (suc dim) takes = omega (arith, rights-to_left decision dim takes)

pub rights-all_left : (n : ℕ) → rights (replicate n Left) ≡ 0
rights-all_left zero = refl
rights-all_left (suc n) = rights-all_left n

-- a diagram sees nothing of what comes before its dimensions
pub value_in-set : (bound from dim : ℕ) (side : Side) (decision : List Side) (tree : Tree) → IsOrdered bound from tree → dim < from → value_in (set decision dim side) tree ≡ value_in decision tree
value_in-set bound from dim side decision (Tip value) ordered before = refl
value_in-set bound from dim side decision (Fork own left right) ordered before =
    let on_left = value_in-set bound (own + 1) dim side decision left ordered.2 (omega (arith, ordered.0)) in
    let on_right = value_in-set bound (own + 1) dim side decision right ordered.3 (omega (arith, ordered.0)) in
    let differ : own ≡ dim → ⊥ = λ e. omega (arith, ordered.0) in
    let here = slice_get-set_other decision dim own side differ in
    rw (here, on_left, on_right) refl

-- at a decision with that side of its dimension, a choice is that side
module _ (bound dim : ℕ) (left right : Tree) (below : dim < bound) (l : IsOrdered bound (dim + 1) left) (r : IsOrdered bound (dim + 1) right) (decision : List Side) (long : length decision ≡ bound) where
  pub value_in-left : value_in (set decision dim Left) (Fork dim left right) ≡ value_in decision left
  value_in-left =
      ap (λ side. by_side side (value_in (set decision dim Left) left) (value_in (set decision dim Left) right)) (slice_get-set_same decision dim Left (omega arith))
      ∙ value_in-set bound (dim + 1) dim Left decision left l (omega arith)

  pub value_in-right : value_in (set decision dim Right) (Fork dim left right) ≡ value_in decision right
  value_in-right =
      ap (λ side. by_side side (value_in (set decision dim Right) left) (value_in (set decision dim Right) right)) (slice_get-set_same decision dim Right (omega arith))
      ∙ value_in-set bound (dim + 1) dim Right decision right r (omega arith)
