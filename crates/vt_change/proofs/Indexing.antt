use Rattle.std.proofs.Common.{◌≡◌, ◌≢◌, ℕ, suc, ◌+◌, ◌<◌, Bool, true, false, nat_eq, nat_lt, not, cond, if◌then◌else◌, List, [], ◌∷◌, ◌++◌, map, take, length, Some, None, AllPairs, slice_index_or, refl, sym, ap, ◌∙◌, arith}
use Rattle.std.specs.List.{position, position_or_len, list_any}
use Rattle.std.specs.Option.{option_map}
use Rattle.std.proofs.lemmas.Bool.{ne_eqb}
use Rattle.std.proofs.lemmas.Grind.{common_steps}
use Rattle.std.proofs.lemmas.List.{get_or-take, take_more, take-map, get_or-map, get_or_default, length-take, length-map, map-append}
use Rattle.std.proofs.lemmas.List.Folds.{list_any_none}
use Rattle.vt_syntax.specs.declared.leaf.Leaf.{Leaf}
use Rattle.vt_syntax.specs.Leaves.{HaveDifferentNumbers}
use Rattle.indexmap.specs.IndexSet.{insert_key}
use Rattle.vt_syntax.specs.Varying.{leaf_index}

-- Where a number stands among numbers.

lifted : (b : Bool) (n : ℕ) → cond b (Some (1 + n)) None ≡ option_map suc (cond b (Some n) None)
lifted true n = ap Some (grind (arith, common_steps))
lifted false n = refl

lower : (n m : ℕ) → nat_lt (1 + n) (suc m) ≡ nat_lt n m
lower n m = grind (arith, common_steps)

counted : (passes : Bool) (n m : ℕ)
    → cond (nat_lt (cond (not passes) (1 + n) 0) (suc m)) (Some (cond (not passes) (1 + n) 0)) None ≡ (if passes then Some 0 else option_map suc (cond (nat_lt n m) (Some n) None))
counted true n m = ap (λ b. cond b (Some 0) None) {y = true} (grind (arith, common_steps))
counted false n m = ap (λ b. cond b (Some (1 + n)) None) (lower n m) ∙ lifted (nat_lt n m) n

-- the place of the first element that passes, after one more
position-cons : {X : Type 0} (p : X → Bool) (x : X) (xs : List X) → position p (x ∷ xs) ≡ (if p x then Some 0 else option_map suc (position p xs))
position-cons p x xs = counted (p x) (position_or_len p xs) (length xs)

nat_eq-sym : (one other : ℕ) → nat_eq one other ≡ nat_eq other one
nat_eq-sym one other = grind (arith, common_steps)

-- the place of a leaf is that of its number among the numbers
pub leaf_index-position : (leaves : List Leaf) (node : ℕ) → leaf_index leaves node ≡ position (nat_eq node) (map (λ one. one.node) leaves)
leaf_index-position [] node = refl
leaf_index-position (one ∷ leaves) node =
    ap (λ same. if same then Some 0 else option_map suc (leaf_index leaves node)) (nat_eq-sym one.node node)
    ∙ ap (λ rest. if nat_eq node one.node then Some 0 else option_map suc rest) (leaf_index-position leaves node)
    ∙ sym (position-cons (nat_eq node) one.node (map (λ one. one.node) leaves))

-- a number is not among those before it, where all are different
absent_before : (numbers : List ℕ) (i n : ℕ) → AllPairs (λ one other. one ≢ other) numbers → i < length numbers → slice_index_or numbers i n ≡ n → list_any (nat_eq n) (take i numbers) ≡ false
absent_before numbers i n different below is = list_any_none _ (take i numbers) (λ k d within.
    let earlier : k < i = omega (arith, within, length-take i numbers) in
    ne_eqb _ _ (λ same. different k i n earlier below (get_or_default numbers k n d (omega (arith, earlier, below)) ∙ sym (get_or-take i numbers k d earlier) ∙ sym same ∙ sym is)))

-- the numbers of some leaves and of the next one
pub one_more : (leaves : List Leaf) (i : ℕ) (one : Leaf) (numbers : List ℕ) → HaveDifferentNumbers leaves → i < length leaves → slice_index_or leaves i one ≡ one → numbers ≡ map (λ each. each.node) (take i leaves)
    → insert_key nat_eq numbers one.node ≡ map (λ each. each.node) (take (i + 1) leaves)
one_more leaves i one numbers different below is are =
    let all = map (λ (each : Leaf). each.node) leaves in
    let absent : list_any (nat_eq one.node) numbers ≡ false =
    ap (list_any (nat_eq one.node)) (are ∙ sym (take-map (λ (each : Leaf). each.node) i leaves))
    ∙ absent_before all i one.node different (omega (arith, below, length-map leaves (λ (each : Leaf). each.node))) (get_or-map (λ (each : Leaf). each.node) leaves i one one.node below ∙ ap (λ (each : Leaf). each.node) is) in
    ap (λ b. cond b numbers (numbers ++ one.node ∷ [])) absent
    ∙ ap (λ ns. ns ++ one.node ∷ []) are
    ∙ sym (ap (map (λ (each : Leaf). each.node)) (take_more leaves i one below ∙ ap (λ each. take i leaves ++ each ∷ []) is) ∙ map-append _ (take i leaves) (one ∷ []))
