use Rattle.std.proofs.Common.{◌≡◌, ◌⊎◌, ◌↔◌, ℕ, zero, suc, ◌+◌, ◌<◌, ◌≤◌, min, IsTrue, Bool, true, false, nat_lt, eqb, List, length, replicate, set, slice_get, Option, Some, None, refl, ap, sym, subst, ◌∙◌, inl, inr, arith}
use Rattle.std.specs.Option.{option_eq}
use Rattle.std.proofs.lemmas.Bool.{cases_lt, eq-eqb}
use Rattle.std.proofs.lemmas.Bool.Decides.{nat_tests}
use Rattle.std.proofs.lemmas.List.{length-set, length-replicate}
use Rattle.std.proofs.lemmas.Option.{same_Some}
use Rattle.vt_dec.specs.declared.side.Side.{Side}
use Rattle.vt_dec.specs.declared.side.Side.TheVariants.{Left, Right}
use Rattle.vt_dec.specs.declared.side.Space.{Space}
use Rattle.vt_dec.specs.declared.side.Space.TheVariants.{All, AtMost}
use Rattle.vt_dec.specs.Decisions.{rights, IsIn}
use Rattle.vt_dec.proofs.Agreement.{rights-set}
use Rattle.vt_dec.proofs.Slices.{slice_get-set_same, slice_get-set_other}
use Rattle.vt_diagram.specs.Rights.{fewer, one_more, fewest_in, IsWitness}
use Rattle.vt_diagram.specs.Trees.{Tree, Tip, Fork, value_in, IsOrdered, by_side}
use Rattle.vt_diagram.proofs.Sides.{rights-to_left, rights-all_left, value_in-set}
use Rattle.vt_diagram.proofs.Slices.{slice_get-replicate}

-- How few Rights a decision has where a diagram is not 0, and so where it is 0 everywhere.

-- ---- no decision has fewer

record IsAtMost (found : Option ℕ) (most : ℕ) : Type 0 where
  count : ℕ
  is : found ≡ Some count
  le : count ≤ most

fewer-first : (one other : Option ℕ) (most : ℕ) → IsAtMost one most → IsAtMost (fewer one other) most
fewer-first None other most h = absurd (let e = h.is in cc)
fewer-first (Some x) None most h = h
fewer-first (Some x) (Some y) most h = let e = same_Some x h.count h.is in record { count = min x y; is = refl; le = omega (arith, h.le) }

fewer-second : (one other : Option ℕ) (most : ℕ) → IsAtMost other most → IsAtMost (fewer one other) most
fewer-second one None most h = absurd (let e = h.is in cc)
fewer-second None (Some y) most h = h
fewer-second (Some x) (Some y) most h = let e = same_Some y h.count h.is in record { count = min x y; is = refl; le = omega (arith, h.le) }

one_more-at_most : (one : Option ℕ) (few most : ℕ) → few + 1 ≡ most → IsAtMost one few → IsAtMost (one_more one) most
one_more-at_most None few most e h = absurd (let is = h.is in cc)
one_more-at_most (Some x) few most e h = let same = same_Some x h.count h.is in record { count = x + 1; is = refl; le = omega (arith, h.le) }

at_most : (bound from : ℕ) (tree : Tree) (d : List Side) → IsOrdered bound from tree → (value_in d tree ≡ 0 → ⊥) → IsAtMost (fewest_in tree) (rights d)
at_most bound from (Tip zero) d ordered some = absurd (some refl)
at_most bound from (Tip (suc value)) d ordered some = record { count = 0; is = refl; le = omega arith }
at_most bound from (Fork dim left right) d ordered some =
    by (slice_get d dim) refl some (at_most bound (dim + 1) left d ordered.2) (at_most bound (dim + 1) right (set d dim Left) ordered.3)
  where
    by : (side : Option Side) → slice_get d dim ≡ side → (by_side side (value_in d left) (value_in d right) ≡ 0 → ⊥) → ((value_in d left ≡ 0 → ⊥) → IsAtMost (fewest_in left) (rights d))
        → ((value_in (set d dim Left) right ≡ 0 → ⊥) → IsAtMost (fewest_in right) (rights (set d dim Left))) → IsAtMost (fewer (fewest_in left) (one_more (fewest_in right))) (rights d)
    by None e s l r = fewer-first (fewest_in left) (one_more (fewest_in right)) (rights d) (l s)
    by (Some Left) e s l r = fewer-first (fewest_in left) (one_more (fewest_in right)) (rights d) (l s)
    by (Some Right) e s l r =
        let same = value_in-set bound (dim + 1) dim Left d right ordered.3 (omega arith) in
        fewer-second (fewest_in left) (one_more (fewest_in right)) (rights d)
        (one_more-at_most (fewest_in right) (rights (set d dim Left)) (rights d) (rights-to_left d dim e) (r (λ z. s (sym same ∙ z))))

-- ---- a decision has so many

fewer-is : (one other : Option ℕ) (count : ℕ) → fewer one other ≡ Some count → (one ≡ Some count) ⊎ (other ≡ Some count)
fewer-is None other count e = inr e
fewer-is (Some x) None count e = inl e
fewer-is (Some x) (Some y) count e = by (cases_lt x y) (same_Some (min x y) count e)
  where
    by : (x < y) ⊎ (y ≤ x) → min x y ≡ count → (Some x ≡ Some count) ⊎ (Some y ≡ Some count)
    by (inl lt) m = inl (ap Some (omega arith))
    by (inr le) m = inr (ap Some (omega arith))

one_more-is : (one : Option ℕ) (count : ℕ) → one_more one ≡ Some count → (few : ℕ) × (one ≡ Some few) × (few + 1 ≡ count)
one_more-is None count e = absurd cc
one_more-is (Some x) count e = (x, refl, same_Some (x + 1) count e)

witness-left : (bound from dim count : ℕ) (left right : Tree) (d : List Side) → IsOrdered bound from (Fork dim left right) → IsWitness bound (dim + 1) count left d → IsWitness bound from count (Fork dim left right) d
witness-left bound from dim count left right d ordered w =
    let here = w.lefts dim (omega arith) ordered.1 in
    record {
      long = w.long;
      rights_are = w.rights_are;
      some = λ z. w.some (sym (ap (λ side. by_side side (value_in d left) (value_in d right)) here) ∙ z);
      lefts = λ own lt below. w.lefts own (omega (arith, ordered.0)) below;
    }

witness-right : (bound from dim few : ℕ) (left right : Tree) (e : List Side) → IsOrdered bound from (Fork dim left right) → IsWitness bound (dim + 1) few right e
    → IsWitness bound from (few + 1) (Fork dim left right) (set e dim Right)
witness-right bound from dim few left right e ordered w =
    let d = set e dim Right in
    let here : slice_get d dim ≡ Some Right = slice_get-set_same e dim Right (omega (arith, w.long, ordered.1)) in
    record {
      long = length-set e dim Right ∙ w.long;
      rights_are = omega (arith, rights-set e dim Right (w.lefts dim (omega arith) ordered.1), w.rights_are);
      some = λ z. w.some (sym (value_in-set bound (dim + 1) dim Right e right ordered.3 (omega arith)) ∙ sym (ap (λ side. by_side side (value_in d left) (value_in d right)) here) ∙ z);
      lefts = λ own lt below. slice_get-set_other e dim own Right (λ same. omega (arith, ordered.0)) ∙ w.lefts own (omega (arith, ordered.0)) below;
    }

witness-tip : (bound from value count : ℕ) → fewest_in (Tip value) ≡ Some count → IsWitness bound from count (Tip value) (replicate bound Left)
witness-tip bound from zero count e = absurd cc
witness-tip bound from (suc value) count e = record {
  long = length-replicate bound Left;
  rights_are = rights-all_left bound ∙ same_Some 0 count e;
  some = λ z. omega arith;
  lefts = λ dim lt below. slice_get-replicate bound dim Left below;
}

witness : (bound from : ℕ) (tree : Tree) (count : ℕ) → IsOrdered bound from tree → fewest_in tree ≡ Some count → (d : List Side) × IsWitness bound from count tree d
witness bound from (Tip value) count ordered e = (replicate bound Left, witness-tip bound from value count e)
witness bound from (Fork dim left right) count ordered e =
    by (fewer-is (fewest_in left) (one_more (fewest_in right)) count e) (λ few. witness bound (dim + 1) left few ordered.2) (λ few. witness bound (dim + 1) right few ordered.3)
  where
    by : (fewest_in left ≡ Some count) ⊎ (one_more (fewest_in right) ≡ Some count) → ((few : ℕ) → fewest_in left ≡ Some few → (d : List Side) × IsWitness bound (dim + 1) few left d)
        → ((few : ℕ) → fewest_in right ≡ Some few → (d : List Side) × IsWitness bound (dim + 1) few right d) → (d : List Side) × IsWitness bound from count (Fork dim left right) d
    by (inl is) l r = let w = l count is in (w.0, witness-left bound from dim count left right w.0 ordered w.1)
    by (inr is) l r =
        let m = one_more-is (fewest_in right) count is in
        let w = r m.0 m.1 in
        (set w.0 dim Right, subst (λ n. IsWitness bound from n (Fork dim left right) (set w.0 dim Right)) m.2 (witness-right bound from dim m.0 left right w.0 ordered w.1))

-- the same by what a diagram is at its top

option_eq-same : (count : Option ℕ) → option_eq eqb count count ≡ true
option_eq-same None = refl
option_eq-same (Some count) = eq-eqb count count refl

option-differ : (one other : Option ℕ) → option_eq eqb one other ≡ false → one ≡ other → ⊥
option-differ one other differ same = let equal : option_eq eqb one other ≡ true = ap (option_eq eqb one) (sym same) ∙ option_eq-same one in absurd (let both = sym equal ∙ differ in cc)

pub tip-witness : (bound from value count : ℕ) (tree : Tree) (d : List Side) → tree ≡ Tip value → d ≡ replicate bound Left → fewest_in tree ≡ Some count → IsWitness bound from count tree d
tip-witness bound from value count tree d is lefts found =
    subst (λ own. IsWitness bound from count own d) (sym is) (subst (IsWitness bound from count (Tip value)) (sym lefts) (witness-tip bound from value count (ap fewest_in (sym is) ∙ found)))

pub right-witness : (bound from dim count : ℕ) (tree left right : Tree) (e d : List Side) → tree ≡ Fork dim left right → IsOrdered bound from tree → fewest_in tree ≡ Some count → false ≡ option_eq eqb (fewest_in tree) (fewest_in left)
    → ((few : ℕ) → fewest_in right ≡ Some few → IsWitness bound (dim + 1) few right e) → d ≡ set e dim Right → IsWitness bound from count tree d
right-witness bound from dim count tree left right e d is ordered found differ w changed =
    subst (λ own. IsWitness bound from count own d) (sym is) (subst (IsWitness bound from count (Fork dim left right)) (sym changed) (by (fewer-is (fewest_in left) (one_more (fewest_in right)) count here)))
  where
    here : fewest_in (Fork dim left right) ≡ Some count
    here = ap fewest_in (sym is) ∙ found

    by : (fewest_in left ≡ Some count) ⊎ (one_more (fewest_in right) ≡ Some count) → IsWitness bound from count (Fork dim left right) (set e dim Right)
    by (inl on_left) = absurd (option-differ (fewest_in tree) (fewest_in left) (sym differ) (found ∙ sym on_left))
    by (inr on_right) =
        let m = one_more-is (fewest_in right) count on_right in
        subst (λ n. IsWitness bound from n (Fork dim left right) (set e dim Right)) m.2 (witness-right bound from dim m.0 left right e (subst (IsOrdered bound from) is ordered) (w m.0 m.1))

-- ---- where a diagram is 0 everywhere

module _ (bound : ℕ) (tree : Tree) (ordered : IsOrdered bound 0 tree) where
  abbrev pub IsZero : Space → Type 0
  IsZero space = (d : List Side) → length d ≡ bound → IsIn space d → value_in d tree ≡ 0

  zero_or : (d : List Side) → (IsAtMost (fewest_in tree) (rights d) → ⊥) → value_in d tree ≡ 0
  zero_or d none = by (value_in d tree) refl
    where
      by : (value : ℕ) → value_in d tree ≡ value → value_in d tree ≡ 0
      by zero e = e
      by (suc value) e = absurd (none (at_most bound 0 tree d ordered (λ z. omega arith)))

  pub zero-none : fewest_in tree ≡ None → (d : List Side) → value_in d tree ≡ 0
  zero-none none d = zero_or d (λ m. let e = sym none ∙ m.is in cc)

  pub zero-few : (count budget : ℕ) → fewest_in tree ≡ Some count → budget < count → (d : List Side) → rights d ≤ budget → value_in d tree ≡ 0
  zero-few count budget is lt d le = zero_or d (λ m. let e = same_Some count m.count (sym is ∙ m.is) in omega (arith, m.le))

  pub some-all : (count : ℕ) → fewest_in tree ≡ Some count → IsZero All → ⊥
  some-all count is zeros = let w = witness bound 0 tree count ordered is in w.1.some (zeros w.0 w.1.long tt)

  some-many : (count budget : ℕ) → fewest_in tree ≡ Some count → count ≤ budget → IsZero (AtMost budget) → ⊥
  some-many count budget is le zeros = let w = witness bound 0 tree count ordered is in w.1.some (zeros w.0 w.1.long (omega (arith, w.1.rights_are)))

  pub zero-at_most : (count budget : ℕ) → fewest_in tree ≡ Some count → IsTrue (nat_lt budget count) ↔ IsZero (AtMost budget)
  zero-at_most count budget is = by (nat_lt budget count) refl
    where
      by : (few : Bool) → nat_lt budget count ≡ few → IsTrue few ↔ IsZero (AtMost budget)
      by true e = let lt : budget < count = grind (arith, nat_tests) in (λ t d long inside. zero-few count budget is lt d inside, λ zeros. refl)
      by false e = let le : count ≤ budget = grind (arith, nat_tests) in (λ t. absurd cc, λ zeros. absurd (some-many count budget is le zeros))
