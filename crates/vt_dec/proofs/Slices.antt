use Rattle.std.proofs.Common.{◌≡◌, ℕ, zero, suc, ◌<◌, List, [], ◌∷◌, Some, length, set, slice_get, refl, ap, arith}

-- What stands at an index of a list, after a change.

pub slice_get-set_same : {X : Type 0} (xs : List X) (k : ℕ) (x : X) → k < length xs → slice_get (set xs k x) k ≡ Some x
slice_get-set_same [] k x within = absurd (omega arith)
slice_get-set_same (y ∷ xs) zero x within = refl
slice_get-set_same (y ∷ xs) (suc k) x within = slice_get-set_same xs k x (omega arith)

pub slice_get-set_other : {X : Type 0} (xs : List X) (k other : ℕ) (x : X) → (other ≡ k → ⊥) → slice_get (set xs k x) other ≡ slice_get xs other
slice_get-set_other [] k other x differ = refl
slice_get-set_other (y ∷ xs) zero zero x differ = absurd (differ refl)
slice_get-set_other (y ∷ xs) zero (suc other) x differ = refl
slice_get-set_other (y ∷ xs) (suc k) zero x differ = refl
slice_get-set_other (y ∷ xs) (suc k) (suc other) x differ = slice_get-set_other xs k other x (λ e. differ (ap suc e))
