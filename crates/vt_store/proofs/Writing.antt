use Rattle.std.proofs.Common.{◌≡◌, ◌⊎◌, ℕ, zero, suc, ◌+◌, ◌*◌, ◌<◌, ◌≤◌, List, [], ◌∷◌, Option, Some, None, Result, Ok, Err, IfOk, length, get_or, slice_get, refl, ap, sym, subst, ◌∙◌, inl, inr, arith}
use Rattle.std.proofs.lemmas.Bool.{cases_eq}
use Rattle.std.proofs.lemmas.Option.{slice_get-get_or, same_Some}
use Rattle.vt_dec.specs.declared.side.Side.{Side}
use Rattle.vt_dec.specs.declared.side.Space.{Space}
use Rattle.vt_dec.specs.declared.side.Side.TheVariants.{Left, Right}
use Rattle.vt_dec.specs.Decisions.{Region, Agrees, Admits, Takes, Decides, MustTake, IsSideOf, IsKept, IsNextDecided}
use Rattle.vt_dec.specs.Contexts.{least_of}
use Rattle.vt_dec.proofs.Agreement.{Agrees-length, Agrees-decided}
use Rattle.vt_dec.proofs.Regions.{Admits-least, MustTake-decided}
use Rattle.vt_dec.proofs.Admitting.{Agrees-all}
use Rattle.vt_type.specs.Variational.{by_side}
use Rattle.vt_store.specs.Writes.{IsOf, AgreesBelow, IsWrite, IsGap, IsGapTo, IsBefore, IsNextAt}

-- a decision has a side for each dimension
pub side_at : (N : ℕ) (decision : List Side) (dim : ℕ) → length decision ≡ 64 * N → dim < 64 * N → (side : Side) × (slice_get decision dim ≡ Some side)
side_at N decision dim long within = (get_or decision dim Left, slice_get-get_or decision dim Left (omega arith))

lt_or_same : (a b : ℕ) → a < suc b → (a < b) ⊎ (a ≡ b)
lt_or_same a b h = elim (cases_eq a b) [ inl e ↦ inr e | inr e ↦ inl (omega arith) ]

pub le_or_lt : (a b : ℕ) → (a ≤ b) ⊎ (b < a)
le_or_lt zero b = inl (omega arith)
le_or_lt (suc a) b = elim (le_or_lt a b) [ inl h ↦ (elim (cases_eq a b) [ inl e ↦ inr (omega arith) | inr e ↦ inl (omega arith) ]) | inr h ↦ inr (omega arith) ]

module _ {A : Type 0} (N : ℕ) (region : Region) (from : ℕ) (change : A → A) where
  -- nothing more is decided
  pub write_all : length region.sides ≡ 64 * N → IsNextDecided region from None → (old : List Side → A) → IsWrite N region from change old (λ decision. change (old decision))
  write_all long none old = record {
    admitted = λ decision of below admits. refl;
    others = λ decision of below out. absurd (out (record {
      agrees = Agrees-all region.sides decision (of.sized ∙ sym long) (λ dim side decides. elim (le_or_lt from dim) [
        | inl le ↦ absurd (none dim side le decides)
        | inr lt ↦ below dim side lt decides
      ]);
      in_space = of.inside;
    }));
  }

  -- the decision takes the side that is decided at the place
  further : (dim : ℕ) → IsGap region from dim → (decision : List Side) → AgreesBelow region from decision → ((side : Side) → Decides region dim side → Takes decision dim side) → AgreesBelow region (suc dim) decision
  further dim gap decision below here other side lt decides =
      elim (lt_or_same other dim lt) [
        | inl less ↦ (elim (le_or_lt from other) [ inl le ↦ absurd (gap other side le less decides) | inr before ↦ below other side before decides ])
        | inr same ↦ subst (λ d. Takes decision d side) (sym same) (here side (subst (λ d. Decides region d side) same decides))
      ]

  -- two sides, of which one is written and the other kept
  module _ (dim : ℕ) (gap : IsGap region from dim) (side : Side) (must : MustTake region dim side) (own : (other : Side) → Decides region dim other → other ≡ side) (within : dim < 64 * N) (old new : List Side → A) where
    pub write_one : (written old_side : List Side → A) → IsWrite N region (suc dim) change old_side written
        → ((decision : List Side) → Takes decision dim side → new decision ≡ written decision) → ((decision : List Side) → Takes decision dim side → old decision ≡ old_side decision)
        → ((decision : List Side) (other : Side) → Takes decision dim other → (other ≡ side → ⊥) → new decision ≡ old decision) → IsWrite N region from change old new
    write_one written old_side write news olds others = record {
      admitted = λ decision of below admits.
          (let takes = must decision admits in
          news decision takes ∙ write.admitted decision of (further dim gap decision below (λ x decides. subst (Takes decision dim) (sym (own x decides)) takes)) admits
          ∙ ap change (sym (olds decision takes)));
      others = λ decision of below out. by decision of below out (side_at N decision dim of.sized within);
    }
      where
        sides_differ : (one other : Side) → (one ≡ other) ⊎ (one ≡ other → ⊥)
        sides_differ Left Left = inl refl
        sides_differ Right Right = inl refl
        sides_differ Left Right = inr (λ e. cc)
        sides_differ Right Left = inr (λ e. cc)

        by : (decision : List Side) → IsOf N region.space decision → AgreesBelow region from decision → (Admits region decision → ⊥) → (x : Side) × (slice_get decision dim ≡ Some x) → new decision ≡ old decision
        by decision of below out (x, takes) = elim (sides_differ x side) [
          | inl same ↦ (let here = subst (Takes decision dim) same takes in
              news decision here ∙ write.others decision of (further dim gap decision below (λ y decides. subst (Takes decision dim) (sym (own y decides)) here)) out ∙ sym (olds decision here))
          | inr differ ↦ others decision x takes differ
        ]

  -- two sides, both of them written
  module _ (dim : ℕ) (gap : IsGap region from dim) (either : IsSideOf region dim None) (within : dim < 64 * N) where
    undecided : (side : Side) → Decides region dim side → ⊥
    undecided side decides =
        let left = sym (Agrees-decided region.sides either.0.0 dim side either.0.1.agrees decides) ∙ either.0.2 in
        let right = sym (Agrees-decided region.sides either.1.0 dim side either.1.1.agrees decides) ∙ either.1.2 in
        cc (same_Some side Left left, same_Some side Right right)

    pub write_both : (left lefts right rights : List Side → A) → IsWrite N region (suc dim) change left lefts → IsWrite N region (suc dim) change right rights
        → IsWrite N region from change (λ d. by_side (slice_get d dim) (left d) (right d)) (λ d. by_side (slice_get d dim) (lefts d) (rights d))
    write_both left lefts right rights one other = record {
      admitted = λ decision of below admits. by_admitted decision of (lower decision below) admits (side_at N decision dim of.sized within);
      others = λ decision of below out. by_others decision of (lower decision below) out (side_at N decision dim of.sized within);
    }
      where
        lower : (decision : List Side) → AgreesBelow region from decision → AgreesBelow region (suc dim) decision
        lower decision below = further dim gap decision below (λ x decides. absurd (undecided x decides))

        by_admitted : (decision : List Side) → IsOf N region.space decision → AgreesBelow region (suc dim) decision → Admits region decision → (x : Side) × (slice_get decision dim ≡ Some x)
            → by_side (slice_get decision dim) (lefts decision) (rights decision) ≡ change (by_side (slice_get decision dim) (left decision) (right decision))
        by_admitted decision of below admits (Left, takes) = rw takes (one.admitted decision of below admits)
        by_admitted decision of below admits (Right, takes) = rw takes (other.admitted decision of below admits)

        by_others : (decision : List Side) → IsOf N region.space decision → AgreesBelow region (suc dim) decision → (Admits region decision → ⊥) → (x : Side) × (slice_get decision dim ≡ Some x)
            → by_side (slice_get decision dim) (lefts decision) (rights decision) ≡ by_side (slice_get decision dim) (left decision) (right decision)
        by_others decision of below out (Left, takes) = rw takes (one.others decision of below out)
        by_others decision of below out (Right, takes) = rw takes (other.others decision of below out)

  -- where the context decides the dimension, its side is written and the other kept
  module _ (below : Option ℕ) (dim : ℕ) (long : length region.sides ≡ 64 * N) (old sub : List Side → A) (write : IsWrite N region (suc dim) change old sub) where
    same_side : (one other : Side) → Decides region dim one → Decides region dim other → one ≡ other
    same_side one other d e = let both = sym d ∙ e in cc

    pub write_decided_left : IsNextAt region from below dim Left → IsWrite N region from change old (λ d. by_side (slice_get d dim) (sub d) (old d))
    write_decided_left next =
        write_one dim next.gap Left (MustTake-decided region dim Left next.decides) (λ x d. same_side x Left d next.decides) (omega (arith, next.within)) old _ sub old write
        (λ d takes. rw takes refl) (λ d takes. refl) (λ d other takes differ. by d other takes differ)
      where
        by : (d : List Side) (other : Side) → slice_get d dim ≡ Some other → (other ≡ Left → ⊥) → by_side (slice_get d dim) (sub d) (old d) ≡ old d
        by d Left takes differ = absurd (differ refl)
        by d Right takes differ = rw takes refl

    pub write_decided_right : IsNextAt region from below dim Right → IsWrite N region from change old (λ d. by_side (slice_get d dim) (old d) (sub d))
    write_decided_right next =
        write_one dim next.gap Right (MustTake-decided region dim Right next.decides) (λ x d. same_side x Right d next.decides) (omega (arith, next.within)) old _ sub old write
        (λ d takes. rw takes refl) (λ d takes. refl) (λ d other takes differ. by d other takes differ)
      where
        by : (d : List Side) (other : Side) → slice_get d dim ≡ Some other → (other ≡ Right → ⊥) → by_side (slice_get d dim) (old d) (sub d) ≡ old d
        by d Right takes differ = absurd (differ refl)
        by d Left takes differ = rw takes refl

  -- a choice of which all admitted decisions take one side
  module _ (dim : ℕ) (gap : IsGap region from dim) (kept : IsKept region) (within : dim < 64 * N) (left right : List Side → A) where
    only : (side other : Side) → MustTake region dim side → Decides region dim other → other ≡ side
    only side other must decides =
        let least = Admits-least region kept in
        same_Some other side (sym (Agrees-decided region.sides (least_of region.sides) dim other least.agrees decides) ∙ must (least_of region.sides) least)

    pub write_left : MustTake region dim Left → (lefts : List Side → A) → IsWrite N region (suc dim) change left lefts
        → IsWrite N region from change (λ d. by_side (slice_get d dim) (left d) (right d)) (λ d. by_side (slice_get d dim) (lefts d) (right d))
    write_left must lefts write =
        write_one dim gap Left must (λ x d. only Left x must d) within _ _ lefts left write
        (λ d takes. rw takes refl) (λ d takes. rw takes refl) (λ d other takes differ. by d other takes differ)
      where
        by : (d : List Side) (other : Side) → slice_get d dim ≡ Some other → (other ≡ Left → ⊥) → by_side (slice_get d dim) (lefts d) (right d) ≡ by_side (slice_get d dim) (left d) (right d)
        by d Left takes differ = absurd (differ refl)
        by d Right takes differ = rw takes refl

    pub write_right : MustTake region dim Right → (rights : List Side → A) → IsWrite N region (suc dim) change right rights
        → IsWrite N region from change (λ d. by_side (slice_get d dim) (left d) (right d)) (λ d. by_side (slice_get d dim) (left d) (rights d))
    write_right must rights write =
        write_one dim gap Right must (λ x d. only Right x must d) within _ _ rights right write
        (λ d takes. rw takes refl) (λ d takes. rw takes refl) (λ d other takes differ. by d other takes differ)
      where
        by : (d : List Side) (other : Side) → slice_get d dim ≡ Some other → (other ≡ Right → ⊥) → by_side (slice_get d dim) (left d) (rights d) ≡ by_side (slice_get d dim) (left d) (right d)
        by d Right takes differ = absurd (differ refl)
        by d Left takes differ = rw takes refl

-- one more decided dimension before what is written behind the others
module _ {A : Type 0} (N : ℕ) (region : Region) (from : ℕ) (below : Option ℕ) (dim next : ℕ) (change : A → A) (old sub written : List Side → A)
    (long : length region.sides ≡ 64 * N) (one_more : next ≡ dim + 1)
    (rest : ((stop : ℕ) → next ≤ stop → IsGapTo region stop below → IsWrite N region stop change old written) → IsWrite N region next change old sub)
    (behind : (stop : ℕ) → from ≤ stop → IsGapTo region stop below → IsWrite N region stop change old written) where
  sub_write : (side : Side) → IsNextAt region from below dim side → IsWrite N region (suc dim) change old sub
  sub_write side found =
      subst (λ n. IsWrite N region n change old sub) (omega arith)
      (rest (λ stop le gap. behind stop (omega (arith, found.later)) gap))

  pub guarded_left : IsNextAt region from below dim Left → IsWrite N region from change old (λ d. by_side (slice_get d dim) (sub d) (old d))
  guarded_left found = write_decided_left N region from change below dim long old sub (sub_write Left found) found

  pub guarded_right : IsNextAt region from below dim Right → IsWrite N region from change old (λ d. by_side (slice_get d dim) (old d) (sub d))
  guarded_right found = write_decided_right N region from change below dim long old sub (sub_write Right found) found

-- what comes before another dimension is followed by one that does too, or by that one
pub next_start : (below : Option ℕ) (dim next : ℕ) → next ≡ dim + 1 → IsBefore dim below → IsBefore next below ⊎ (below ≡ Some next)
next_start None dim next one_more before = inl tt
next_start (Some other) dim next one_more before = elim (lt_or_same next (suc other) (omega arith)) [
  | inl h ↦ (elim (cases_eq next other) [ inl e ↦ inr (ap Some (sym e)) | inr e ↦ inl (omega arith) ])
  | inr e ↦ absurd (omega arith)
]

-- what follows from what is known of an Ok
pub if_ok : {T E : Type 0} (P Q : T → Type 0) (r : Result T E) → ((x : T) → P x → Q x) → IfOk r P → IfOk r Q
if_ok P Q (Ok x) step h = step x h
if_ok P Q (Err e) step h = tt

pub both_ok : {T E : Type 0} (P Q R : T → Type 0) (r : Result T E) → ((x : T) → P x → Q x → R x) → IfOk r P → IfOk r Q → IfOk r R
both_ok P Q R (Ok x) step p q = step x p q
both_ok P Q R (Err e) step p q = tt

pub from_or_before : (from dim : ℕ) → from ≤ dim → IsBefore from (Some dim) ⊎ (◌≡◌ {A = Option ℕ} (Some dim) (Some from))
from_or_before from dim le = elim (lt_or_same from dim (omega arith)) [ inl lt ↦ inl lt | inr e ↦ inr (ap Some (sym e)) ]

-- a decision that a context admits is one of its space
pub IsOf-admitted : (N : ℕ) (region : Region) (decision : List Side) → length region.sides ≡ 64 * N → Admits region decision → IsOf N region.space decision
IsOf-admitted N region decision long admits = record { sized = Agrees-length region.sides decision admits.agrees ∙ long; inside = admits.in_space }

-- what is written from the first dimension on is written everywhere
module _ {A : Type 0} (N : ℕ) (region : Region) (change : A → A) (old new : List Side → A) (write : IsWrite N region 0 change old new) where
  pub write-admitted : length region.sides ≡ 64 * N → (decision : List Side) → Admits region decision → new decision ≡ change (old decision)
  write-admitted long decision admits = write.admitted decision (IsOf-admitted N region decision long admits) (λ dim side lt decides. absurd (omega arith)) admits

  pub write-others : (space : Space) → region.space ≡ space → (decision : List Side) → IsOf N space decision → (Admits region decision → ⊥) → new decision ≡ old decision
  write-others space same decision of out = write.others decision (subst (λ s. IsOf N s decision) (sym same) of) (λ dim side lt decides. absurd (omega arith)) out
