use Rattle.std.proofs.Common.{ℕ, List, None, refl, sym, subst, ◌∙◌, inl, inr}
use Rattle.vt_dec.specs.declared.side.Side.{Side}
use Rattle.vt_dec.specs.declared.side.Side.TheVariants.{Left, Right}
use Rattle.vt_dec.specs.Decisions.{Region, Takes, MustTake, IsSideOf}
use Rattle.vt_store.specs.Branches.{Ways, PassesChoice, Branches}

-- no decision takes both sides
pub both_sides : (decision : List Side) (dim : ℕ) → Takes decision dim Left → Takes decision dim Right → ⊥
both_sides decision dim l r = let e = sym l ∙ r in cc

-- the same two decisions, in another diagram
elsewhere : (region : Region) (here there : Ways) (dim : ℕ) (b : Branches region here dim) → there b.left dim → there b.right dim → Branches region there dim
elsewhere region here there dim b left right = record {
  left = b.left;
  right = b.right;
  left_admitted = b.left_admitted;
  right_admitted = b.right_admitted;
  takes_left = b.takes_left;
  takes_right = b.takes_right;
  left_passes = left;
  right_passes = right;
}

module _ (region : Region) (own : ℕ) (left right : Ways) where
  -- where all take the left side, the choice branches where its left side does
  pub branches_left : MustTake region own Left → (dim : ℕ) → Branches region (PassesChoice own left right) dim → Branches region left dim
  branches_left must dim b =
      elsewhere region (PassesChoice own left right) left dim b
      (by b.left (must b.left b.left_admitted) b.left_passes)
      (by b.right (must b.right b.right_admitted) b.right_passes)
    where
      by : (decision : List Side) → Takes decision own Left → PassesChoice own left right decision dim → left decision dim
      by decision takes (inl same) = absurd (both_sides b.right own (must b.right b.right_admitted) (subst (λ d. Takes b.right d Right) (sym same) b.takes_right))
      by decision takes (inr (inl way)) = way.1
      by decision takes (inr (inr way)) = absurd (both_sides decision own takes way.0)

  pub branches_right : MustTake region own Right → (dim : ℕ) → Branches region (PassesChoice own left right) dim → Branches region right dim
  branches_right must dim b =
      elsewhere region (PassesChoice own left right) right dim b
      (by b.left (must b.left b.left_admitted) b.left_passes)
      (by b.right (must b.right b.right_admitted) b.right_passes)
    where
      by : (decision : List Side) → Takes decision own Right → PassesChoice own left right decision dim → right decision dim
      by decision takes (inl same) = absurd (both_sides b.left own (subst (λ d. Takes b.left d Left) (sym same) b.takes_left) (must b.left b.left_admitted))
      by decision takes (inr (inl way)) = absurd (both_sides decision own way.0 takes)
      by decision takes (inr (inr way)) = way.1

  pub left_branches : MustTake region own Left → (dim : ℕ) → Branches region left dim → Branches region (PassesChoice own left right) dim
  left_branches must dim b =
      elsewhere region left (PassesChoice own left right) dim b
      (inr (inl (must b.left b.left_admitted, b.left_passes)))
      (inr (inl (must b.right b.right_admitted, b.right_passes)))

  pub right_branches : MustTake region own Right → (dim : ℕ) → Branches region right dim → Branches region (PassesChoice own left right) dim
  right_branches must dim b =
      elsewhere region right (PassesChoice own left right) dim b
      (inr (inr (must b.left b.left_admitted, b.left_passes)))
      (inr (inr (must b.right b.right_admitted, b.right_passes)))

  -- a choice of which both sides are taken branches
  pub branches_here : IsSideOf region own None → Branches region (PassesChoice own left right) own
  branches_here either = record {
    left = either.0.0;
    right = either.1.0;
    left_admitted = either.0.1;
    right_admitted = either.1.1;
    takes_left = either.0.2;
    takes_right = either.1.2;
    left_passes = inl refl;
    right_passes = inl refl;
  }
