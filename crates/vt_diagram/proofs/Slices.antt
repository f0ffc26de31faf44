use Rattle.std.proofs.Common.{◌≡◌, ◌⊎◌, ℕ, zero, suc, ◌-◌, ◌<◌, List, [], ◌∷◌, ◌++◌, Some, length, replicate, slice_get, get_or, refl, ap, sym, ◌∙◌, inl, inr, arith}
use Rattle.std.proofs.lemmas.Option.{same_Some, slice_get-get_or}

-- What stands at an index of a list with one element more, and of a list of one element.

pub slice_get-before : {X : Type 0} (xs : List X) (y : X) (k : ℕ) → k < length xs → slice_get (xs ++ y ∷ []) k ≡ slice_get xs k
slice_get-before [] y k within = absurd (omega arith)
slice_get-before (x ∷ xs) y zero within = refl
slice_get-before (x ∷ xs) y (suc k) within = slice_get-before xs y k (omega arith)

pub slice_get-last : {X : Type 0} (xs : List X) (y : X) → slice_get (xs ++ y ∷ []) (length xs) ≡ Some y
slice_get-last [] y = refl
slice_get-last (x ∷ xs) y = slice_get-last xs y

pub before_or_last : {X : Type 0} (xs : List X) (y : X) (k : ℕ) (x : X) → slice_get (xs ++ y ∷ []) k ≡ Some x → (slice_get xs k ≡ Some x) ⊎ ((k ≡ length xs) × (y ≡ x))
before_or_last [] y zero x is = inr (refl, same_Some y x is)
before_or_last [] y (suc k) x is = absurd cc
before_or_last (z ∷ xs) y zero x is = inl is
before_or_last (z ∷ xs) y (suc k) x is = by (before_or_last xs y k x is)
  where
    by : (slice_get xs k ≡ Some x) ⊎ ((k ≡ length xs) × (y ≡ x)) → (slice_get xs k ≡ Some x) ⊎ ((suc k ≡ suc (length xs)) × (y ≡ x))
    by (inl before) = inl before
    by (inr last) = inr (ap suc last.0, last.1)

pub slice_get-replicate : {X : Type 0} (n k : ℕ) (x : X) → k < n → slice_get (replicate n x) k ≡ Some x
slice_get-replicate zero k x within = absurd (omega arith)
slice_get-replicate (suc n) zero x within = refl
slice_get-replicate (suc n) (suc k) x within = slice_get-replicate n k x (omega arith)

-- behind a first element
pub slice_get-behind : {X : Type 0} (first x : X) (xs : List X) (k : ℕ) → (k ≡ 0 → ⊥) → k < length (first ∷ xs) → x ≡ get_or xs (k - 1) x → slice_get (first ∷ xs) k ≡ Some x
slice_get-behind first x xs zero some within is = absurd (some refl)
slice_get-behind first x xs (suc k) some within is =
    let index : k ≡ suc k - 1 = omega arith in
    slice_get-get_or xs k x (omega arith) ∙ ap Some (ap (λ at. get_or xs at x) index ∙ sym is)
