use Rattle.std.proofs.Common.{◌≡◌, ◌≢◌, ℕ, zero, suc, ◌+◌, ◌<◌, ◌≤◌, nat_eq, Bool, true, false, List, [], ◌∷◌, length, map, get_or, slice_get, Option, Some, None, refl, ap, sym, ◌∙◌, eq-eqb, true≢false, if◌then◌else◌, arith}
use Rattle.std.specs.Option.{option_map}
use Rattle.std.proofs.lemmas.Option.{none-some, same_Some}
use Rattle.std.proofs.lemmas.Bool.Decides.{nat_tests}
use Rattle.vt_syntax.specs.declared.leaf.Leaf.{Leaf}
use Rattle.vt_syntax.specs.Leaves.{IsListed, HaveDifferentNumbers}
use Rattle.vt_syntax.specs.Checking.{AreDifferent}
use Rattle.vt_syntax.specs.Varying.{leaf_index}

-- The place of a leaf and its number.

same-nat : (n m : ℕ) → nat_eq n m ≡ true → n ≡ m
same-nat n m h = grind (arith, nat_tests)

other-nat : (n m : ℕ) → n ≢ m → nat_eq n m ≡ false
other-nat n m h = grind (arith, nat_tests)

-- the leaf at the place that is found has the number
pub found-leaf : (leaves : List Leaf) (node place : ℕ) → leaf_index leaves node ≡ Some place
    → (one : Leaf) × (slice_get leaves place ≡ Some one) × (one.node ≡ node)
found-leaf [] node place h = absurd (none-some place h)
found-leaf (one ∷ leaves) node place h = by (found-leaf leaves node) (nat_eq one.node node) refl (leaf_index leaves node) refl h
  where
    by : ((before : ℕ) → leaf_index leaves node ≡ Some before → (found : Leaf) × (slice_get leaves before ≡ Some found) × (found.node ≡ node)) → (b : Bool) → nat_eq one.node node ≡ b → (o : Option ℕ) → leaf_index leaves node ≡ o → (if b then Some 0 else option_map suc o) ≡ Some place
        → (found : Leaf) × (slice_get (one ∷ leaves) place ≡ Some found) × (found.node ≡ node)
    by rest true e o f k = (one, ap (slice_get (one ∷ leaves)) (sym (same_Some 0 place k)), same-nat one.node node e)
    by rest false e None f k = absurd (none-some place k)
    by rest false e (Some before) f k =
        let (found, at, same) = rest before f in
        (found, ap (slice_get (one ∷ leaves)) (sym (same_Some (suc before) place k)) ∙ at, same)

-- the numbers of the leaves but the first
tail-different : (one : Leaf) (leaves : List Leaf) → HaveDifferentNumbers (one ∷ leaves) → HaveDifferentNumbers leaves
tail-different one leaves h i j d less within = h (suc i) (suc j) d (omega arith) (omega arith)

-- the numbers of two places
node-at : (leaves : List Leaf) (place : ℕ) (one : Leaf) (d : ℕ) → slice_get leaves place ≡ Some one
    → (place < length (map (λ (l : Leaf). l.node) leaves)) × (get_or (map (λ (l : Leaf). l.node) leaves) place d ≡ one.node)
node-at [] place one d h = absurd (none-some one h)
node-at (x ∷ leaves) zero one d h = (omega arith, ap (λ (l : Leaf). l.node) (same_Some x one h))
node-at (x ∷ leaves) (suc place) one d h = let (within, is) = node-at leaves place one d h in (omega (arith, within), is)

-- the place of a leaf is found by its number
pub leaf-found : (leaves : List Leaf) → HaveDifferentNumbers leaves → (place : ℕ) (one : Leaf) → slice_get leaves place ≡ Some one → leaf_index leaves one.node ≡ Some place
leaf-found [] different place one h = absurd (none-some one h)
leaf-found (x ∷ leaves) different zero one h =
    ap (λ b. if b then Some 0 else option_map suc (leaf_index leaves one.node)) (eq-eqb x.node one.node (ap (λ (l : Leaf). l.node) (same_Some x one h)))
leaf-found (x ∷ leaves) different (suc place) one h =
    let (within, is) = node-at leaves place one 0 h in
    let differ : x.node ≢ one.node = λ same. different 0 (suc place) 0 (omega arith) (omega (arith, within)) (same ∙ sym is) in
    ap (λ b. if b then Some 0 else option_map suc (leaf_index leaves one.node)) (other-nat x.node one.node differ)
    ∙ ap (option_map suc) (leaf-found leaves (tail-different x leaves different) place one h)

-- a place that is found is one of the list
pub found-within : (leaves : List Leaf) (node place : ℕ) → leaf_index leaves node ≡ Some place → place < length leaves
found-within [] node place h = absurd (none-some place h)
found-within (one ∷ leaves) node place h = by (found-within leaves node) (nat_eq one.node node) (leaf_index leaves node) refl h
  where
    by : ((before : ℕ) → leaf_index leaves node ≡ Some before → before < length leaves) → (b : Bool) (o : Option ℕ) → leaf_index leaves node ≡ o → (if b then Some 0 else option_map suc o) ≡ Some place → place < length (one ∷ leaves)
    by rest true o f k = let is = same_Some 0 place k in omega (arith, is)
    by rest false None f k = absurd (none-some place k)
    by rest false (Some before) f k = let below = rest before f in let is = same_Some (suc before) place k in omega (arith, below, is)
