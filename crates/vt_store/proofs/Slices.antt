use Rattle.std.proofs.Common.{◌≡◌, ℕ, zero, suc, ◌+◌, ◌<◌, List, [], ◌∷◌, ◌++◌, Some, length, set, slice_get, refl, ap, arith}

-- What stands at a place of two lists in one.

pub slice_get-before : {X : Type 0} (xs ys : List X) (k : ℕ) → k < length xs → slice_get (xs ++ ys) k ≡ slice_get xs k
slice_get-before [] ys k within = absurd (omega arith)
slice_get-before (x ∷ xs) ys zero within = refl
slice_get-before (x ∷ xs) ys (suc k) within = slice_get-before xs ys k (omega arith)

pub slice_get-behind : {X : Type 0} (xs ys : List X) (k place : ℕ) → place ≡ length xs + k → slice_get (xs ++ ys) place ≡ slice_get ys k
slice_get-behind [] ys k place is = ap (slice_get ys) (omega arith)
slice_get-behind (x ∷ xs) ys k zero is = absurd (omega arith)
slice_get-behind (x ∷ xs) ys k (suc place) is = slice_get-behind xs ys k place (omega arith)
