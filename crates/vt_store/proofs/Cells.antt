use Rattle.std.proofs.Common.{◌≡◌, ℕ, zero, suc, ◌<◌, ◌≤◌, List, [], ◌∷◌, map, refl, subst, arith}
use Rattle.std.specs.List.{All}
use Rattle.std.proofs.lemmas.List.Elements.{All-contains}
use Rattle.vt_store.specs.Ends.{CellEnd, Free, Same, Made, EachCell, EndsWithin, IsAcyclic, NamesCell}

pub All-head : {X : Type 0} (P : X → Type 0) (x : X) (xs : List X) → All P (x ∷ xs) → P x
All-head P x xs h = h 0 x (omega arith)

pub All-tail : {X : Type 0} (P : X → Type 0) (x : X) (xs : List X) → All P (x ∷ xs) → All P xs
All-tail P x xs h k d within = h (suc k) d (omega arith)

-- what follows from each element alone
pub All-each : {X : Type 0} (P Q : X → Type 0) (xs : List X) → ((x : X) → P x → Q x) → All P xs → All Q xs
All-each P Q xs step h k d within = step _ (h k d within)

-- what follows from each cell alone
pub EachCell-each : (P Q : ℕ → Type 0) (end : CellEnd) → ((cell : ℕ) → P cell → Q cell) → EachCell P end → EachCell Q end
EachCell-each P Q Free step h = tt
EachCell-each P Q (Same cell) step h = step cell h
EachCell-each P Q (Made head kids) step h = All-each P Q kids step h

-- two functions that agree on each element
pub map-each : {X Y : Type 0} (f g : X → Y) (P : X → Type 0) (xs : List X) → ((x : X) → P x → f x ≡ g x) → All P xs → map f xs ≡ map g xs
map-each f g P [] same h = refl
map-each f g P (x ∷ xs) same h =
    let here = same x (All-head P x xs h) in
    let rest = map-each f g P xs same (All-tail P x xs h) in
    λ i. here i ∷ rest i

pub All-both : {X : Type 0} (P Q : X → Type 0) (xs : List X) → All P xs → All Q xs → All (λ x. P x × Q x) xs
All-both P Q xs p q k d within = (p k d within, q k d within)

pub EachCell-both : (P Q : ℕ → Type 0) (end : CellEnd) → EachCell P end → EachCell Q end → EachCell (λ cell. P cell × Q cell) end
EachCell-both P Q Free p q = tt
EachCell-both P Q (Same cell) p q = (p, q)
EachCell-both P Q (Made head kids) p q = All-both P Q kids p q

-- one of the cells that an end names
pub EachCell-at : (P : ℕ → Type 0) (end : CellEnd) (cell : ℕ) → EachCell P end → NamesCell end cell → P cell
EachCell-at P Free cell each names = absurd names
EachCell-at P (Same own) cell each names = subst P names each
EachCell-at P (Made head kids) cell each names = All-contains P kids cell each names

-- more cells are allowed on the way down
pub EndsWithin-more : (n : ℕ) (e : ℕ → CellEnd) (few many cell : ℕ) → few ≤ many → EndsWithin n e few cell → EndsWithin n e many cell
EndsWithin-more n e zero many cell le h = absurd h
EndsWithin-more n e (suc few) zero cell le h = absurd (omega arith)
EndsWithin-more n e (suc few) (suc many) cell le h =
    (h.0, EachCell-each (EndsWithin n e few) (EndsWithin n e many) (e cell) (λ below. EndsWithin-more n e few many below (omega arith)) h.1)

-- a cell that ends is one of them
pub EndsWithin-within : (n : ℕ) (e : ℕ → CellEnd) (most cell : ℕ) → EndsWithin n e most cell → cell < n
EndsWithin-within n e zero cell h = absurd h
EndsWithin-within n e (suc most) cell h = h.0

-- what such an end names are cells
pub EachCell-within : (n : ℕ) (e : ℕ → CellEnd) (most : ℕ) (end : CellEnd) → EachCell (EndsWithin n e most) end → EachCell (λ cell. cell < n) end
EachCell-within n e most end h = EachCell-each (EndsWithin n e most) (λ cell. cell < n) end (EndsWithin-within n e most) h

pub EndsWithin-named : (n : ℕ) (e : ℕ → CellEnd) (most cell : ℕ) → EndsWithin n e most cell → EachCell (λ below. below < n) (e cell)
EndsWithin-named n e zero cell h = absurd h
EndsWithin-named n e (suc most) cell h = EachCell-within n e most (e cell) h.1

pub IsAcyclic-named : (n : ℕ) (e : ℕ → CellEnd) → IsAcyclic n e → (cell : ℕ) → cell < n → EachCell (λ below. below < n) (e cell)
IsAcyclic-named n e acyclic cell within = EndsWithin-named n e n cell (acyclic cell within)
