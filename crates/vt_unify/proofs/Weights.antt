use Rattle.std.proofs.Common.{◌≡◌, ℕ, zero, suc, ◌<◌, ◌≤◌, List, [], ◌∷◌, refl, ap, ◌∙◌, arith}
use Rattle.std.specs.List.{All}
use Rattle.vt_type.specs.declared.head.Head.{Head}
use Rattle.vt_store.specs.Ends.{CellEnd, Free, Same, Made, EachCell, EndsWithin, IsAcyclic}
use Rattle.vt_store.specs.Views.{Follows, arrived, onward}
use Rattle.vt_store.proofs.Cells.{All-head, All-tail, EachCell-both, EndsWithin-within}
use Rattle.vt_unify.specs.Weights.{weights, weight_of, weight}
use Rattle.vt_unify.specs.Comparisons.{IsMadeOf}
use Rattle.vt_unify.proofs.Solving.{linked_within, Follows-within}

pub weight-positive : (e : ℕ → CellEnd) (most cell : ℕ) → 0 < weight e most cell
weight-positive e zero cell = omega arith
weight-positive e (suc most) cell = by (e cell)
  where
    by : (end : CellEnd) → 0 < weight_of (weight e most) end
    by Free = omega arith
    by (Same own) = omega arith
    by (Made head kids) = omega arith

weights-same : (one other : ℕ → ℕ) (P : ℕ → Type 0) (kids : List ℕ) → ((kid : ℕ) → P kid → one kid ≡ other kid) → All P kids → weights one kids ≡ weights other kids
weights-same one other P [] same h = refl
weights-same one other P (kid ∷ kids) same h =
    let here = same kid (All-head P kid kids h) in
    let rest = weights-same one other P kids same (All-tail P kid kids h) in
    omega arith

weight_of-same : (one other : ℕ → ℕ) (P : ℕ → Type 0) (end : CellEnd) → ((cell : ℕ) → P cell → one cell ≡ other cell) → EachCell P end → weight_of one end ≡ weight_of other end
weight_of-same one other P Free same h = refl
weight_of-same one other P (Same cell) same h = ap suc (same cell h)
weight_of-same one other P (Made head kids) same h = ap suc (weights-same one other P kids same h)

-- the weight does not depend on how far down it goes, where all ends are reached
weight-any : (n : ℕ) (e : ℕ → CellEnd) (one other cell : ℕ) → EndsWithin n e one cell → EndsWithin n e other cell → weight e one cell ≡ weight e other cell
weight-any n e zero other cell h g = absurd h
weight-any n e (suc one) zero cell h g = absurd g
weight-any n e (suc one) (suc other) cell h g =
    weight_of-same (weight e one) (weight e other) (λ below. EndsWithin n e one below × EndsWithin n e other below) (e cell)
    (λ below both. weight-any n e one other below both.0 both.1)
    (EachCell-both (EndsWithin n e one) (EndsWithin n e other) (e cell) h.1 g.1)

module _ (n : ℕ) (e : ℕ → CellEnd) (acyclic : IsAcyclic n e) where
  weight-down : (most cell : ℕ) → EndsWithin n e most cell → weight e most cell ≡ weight_of (weight e n) (e cell)
  weight-down zero cell h = absurd h
  weight-down (suc most) cell h =
      weight_of-same (weight e most) (weight e n) (EndsWithin n e most) (e cell)
      (λ below g. weight-any n e most n below g (acyclic below (EndsWithin-within n e most below g))) h.1

  weight-end : (cell : ℕ) (end : CellEnd) → cell < n → e cell ≡ end → weight e n cell ≡ weight_of (weight e n) end
  weight-end cell end within is = weight-down n cell (acyclic cell within) ∙ ap (weight_of (weight e n)) is

  Follows-weight : (cell last : ℕ) → cell < n → Follows e cell last → weight e n last ≤ weight e n cell
  Follows-weight cell last within (arrived own) = omega arith
  Follows-weight cell last within (onward own next end is rest) =
      let below = Follows-weight next last (linked_within n e acyclic cell next within is) rest in
      omega (arith, below, weight-end cell (Same next) within is)

  -- what a cell is made of weighs less
  pub made-weight : (cell : ℕ) (head : Head) (kids : List ℕ) → cell < n → IsMadeOf e cell head kids → weights (weight e n) kids < weight e n cell
  made-weight cell head kids within made =
      let own = weight-end made.0 (Made head kids) (Follows-within n e acyclic cell made.0 within made.1) made.2 in
      omega (arith, own, Follows-weight cell made.0 within made.1)
