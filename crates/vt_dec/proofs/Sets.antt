use Rattle.std.proofs.Common.{◌≡◌, ℕ, zero, suc, Bool, true, false, cond, ◌||◌, List, [], ◌∷◌, map, replicate, count_by, refl, ap, arith}
use lib.Lanes.{zip2}
use Rattle.std.proofs.lemmas.List.Sums.{sum_by-cons}
use Rattle.vt_dec.specs.declared.side.Side.TheVariants.{Right}
use Rattle.vt_dec.specs.Decisions.{rights}
use Rattle.vt_dec.specs.Sides.{side_of, join_side}

pub map-replicate : {A B : Type 0} (f : A → B) (n : ℕ) (a : A) → map f (replicate n a) ≡ replicate n (f a)
map-replicate f zero a = refl
map-replicate f (suc n) a = ap (λ rest. f a ∷ rest) (map-replicate f n a)

pub rights-map : (bits : List Bool) → rights (map side_of bits) ≡ count_by (λ bit. bit) bits
rights-map [] = refl
rights-map (true ∷ bits) = omega (arith, rights-map bits, sum_by-cons (λ bit. cond bit 1 0) true bits)
rights-map (false ∷ bits) = omega (arith, rights-map bits, sum_by-cons (λ bit. cond bit 1 0) false bits)

pub map-zip2 : (ones others : List Bool) → map side_of (zip2 (λ one other. one || other) ones others) ≡ zip2 join_side (map side_of ones) (map side_of others)
map-zip2 [] [] = refl
map-zip2 [] (other ∷ others) = refl
map-zip2 (one ∷ ones) [] = refl
map-zip2 (true ∷ ones) (other ∷ others) = ap (λ rest. Right ∷ rest) (map-zip2 ones others)
map-zip2 (false ∷ ones) (other ∷ others) = ap (λ rest. side_of other ∷ rest) (map-zip2 ones others)
