use Rattle.std.proofs.Common.{◌≡◌, ◌⊎◌, ℕ, zero, suc, ◌+◌, ◌-◌, ◌*◌, ◌<◌, ◌≤◌, List, [], ◌∷◌, ◌++◌, Option, Some, None, length, refl, ap, sym, ◌∙◌, inl, inr, arith}
use Rattle.std.specs.List.{sum_by}
use Rattle.std.proofs.lemmas.Bool.{cases_lt}
use Rattle.std.proofs.lemmas.List.Sums.{sum_by_push}
use Rattle.vt_dec.specs.declared.side.Side.{Side}
use Rattle.vt_dec.specs.declared.side.Side.TheVariants.{Left, Right}
use Rattle.vt_dec.specs.declared.side.Space.{Space}
use Rattle.vt_dec.specs.declared.side.Space.TheVariants.{All as AllOf, AtMost}
use Rattle.vt_dec.specs.Decisions.{Region, Agrees, Admits, IsIn, Takes, rights, Narrows}
use Rattle.vt_dec.proofs.Admitting.{Admits-or}
use Rattle.vt_store.proofs.Branching.{both_sides}

-- How many decisions a context admits: what falls each time that a context is split.

-- the sum over all decisions of so many dimensions
abbrev total : ℕ → (List Side → ℕ) → ℕ
total zero f = f []
total (suc n) f = total n (λ d. f (Left ∷ d)) + total n (λ d. f (Right ∷ d))

total-both : (n : ℕ) (f g h : List Side → ℕ) → ((d : List Side) → length d ≡ n → f d + g d ≡ h d) → total n f + total n g ≡ total n h
total-both zero f g h same = same [] refl
total-both (suc n) f g h same =
    let left = total-both n (λ d. f (Left ∷ d)) (λ d. g (Left ∷ d)) (λ d. h (Left ∷ d)) (λ d long. same (Left ∷ d) (ap suc long)) in
    let right = total-both n (λ d. f (Right ∷ d)) (λ d. g (Right ∷ d)) (λ d. h (Right ∷ d)) (λ d long. same (Right ∷ d) (ap suc long)) in
    omega (arith, left, right)

total-positive : (n : ℕ) (f : List Side → ℕ) (d : List Side) → length d ≡ n → 0 < f d → 0 < total n f
total-positive zero f [] long some = some
total-positive zero f (side ∷ d) long some = absurd (omega arith)
total-positive (suc n) f [] long some = absurd (omega arith)
total-positive (suc n) f (Left ∷ d) long some = omega (arith, total-positive n (λ rest. f (Left ∷ rest)) d (omega arith) some)
total-positive (suc n) f (Right ∷ d) long some = omega (arith, total-positive n (λ rest. f (Right ∷ rest)) d (omega arith) some)

-- ---- how many it admits

abbrev one_if : {P : Type 0} → P ⊎ (P → ⊥) → ℕ
one_if (inl p) = 1
one_if (inr p) = 0

one_if-yes : {P : Type 0} (d : P ⊎ (P → ⊥)) → P → one_if d ≡ 1
one_if-yes (inl p) h = refl
one_if-yes (inr never) h = absurd (never h)

one_if-no : {P : Type 0} (d : P ⊎ (P → ⊥)) → (P → ⊥) → one_if d ≡ 0
one_if-no (inl p) h = absurd (h p)
one_if-no (inr never) h = refl

abbrev pub admitted : ℕ → Region → ℕ
admitted n region = total n (λ d. one_if (Admits-or region d))

pub admitted-positive : (n : ℕ) (region : Region) (d : List Side) → length d ≡ n → Admits region d → 0 < admitted n region
admitted-positive n region d long h = total-positive n (λ own. one_if (Admits-or region own)) d long (omega (arith, one_if-yes (Admits-or region d) h))

-- a decision takes one of the two sides
pub either_side : (d : List Side) (dim : ℕ) → dim < length d → Takes d dim Left ⊎ Takes d dim Right
either_side [] dim within = absurd (omega arith)
either_side (Left ∷ d) zero within = inl refl
either_side (Right ∷ d) zero within = inr refl
either_side (side ∷ d) (suc dim) within = either_side d dim (omega arith)

-- the two halves of a context admit together as many
module _ (n dim : ℕ) (region left right : Region) (low : dim < n) (to_left : Narrows region dim Left left) (to_right : Narrows region dim Right right) where
  halves-at : (d : List Side) → length d ≡ n → one_if (Admits-or left d) + one_if (Admits-or right d) ≡ one_if (Admits-or region d)
  halves-at d long = by (Admits-or region d) (either_side d dim (omega arith))
    where
      by : (whole : Admits region d ⊎ (Admits region d → ⊥)) → Takes d dim Left ⊎ Takes d dim Right → one_if (Admits-or left d) + one_if (Admits-or right d) ≡ one_if whole
      by (inl has) (inl takes) =
          omega (arith, one_if-yes (Admits-or left d) ((to_left.exactly d).1 (has, takes)), one_if-no (Admits-or right d) (λ h. both_sides d dim takes ((to_right.exactly d).0 h).1))
      by (inl has) (inr takes) =
          omega (arith, one_if-no (Admits-or left d) (λ h. both_sides d dim ((to_left.exactly d).0 h).1 takes), one_if-yes (Admits-or right d) ((to_right.exactly d).1 (has, takes)))
      by (inr never) takes =
          omega (arith, one_if-no (Admits-or left d) (λ h. never ((to_left.exactly d).0 h).0), one_if-no (Admits-or right d) (λ h. never ((to_right.exactly d).0 h).0))

  pub admitted-halves : admitted n left + admitted n right ≡ admitted n region
  admitted-halves = total-both n (λ d. one_if (Admits-or left d)) (λ d. one_if (Admits-or right d)) (λ d. one_if (Admits-or region d)) halves-at

-- ---- the work that is left where parts of a context are split or done

abbrev pub work : ℕ → List Region → ℕ
work n parts = sum_by (λ part. 2 * admitted n part - 1) parts

pub work-done : (n : ℕ) (parts : List Region) (part : Region) → 0 < admitted n part → work n parts < work n (parts ++ part ∷ [])
work-done n parts part some = omega (arith, sum_by_push (λ own. 2 * admitted n own - 1) parts part)

pub work-split : (n : ℕ) (parts : List Region) (part left right : Region) → 0 < admitted n left → 0 < admitted n right → admitted n left + admitted n right ≡ admitted n part
    → work n ((parts ++ right ∷ []) ++ left ∷ []) < work n (parts ++ part ∷ [])
work-split n parts part left right some_left some_right both =
    let own : Region → ℕ = λ own. 2 * admitted n own - 1 in
    omega (arith, sum_by_push own parts part, sum_by_push own (parts ++ right ∷ []) left, sum_by_push own parts right)
