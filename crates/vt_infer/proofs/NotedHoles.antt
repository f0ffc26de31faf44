use Rattle.std.proofs.Common.{◌≡◌, ◌≢◌, inl, inr, ℕ, ◌+◌, ◌<◌, true, false, List, Some, slice_get, sym, ap, subst, ◌∙◌, arith}
use Rattle.std.specs.BTreeMap.{is_at}
use Rattle.std.specs.BTreeSet.{BTreeSet, Updates}
use Rattle.std.specs.List.{Contains}
use Rattle.std.specs.Ordering.{nat_cmp}
use Rattle.std.proofs.lemmas.Bool.{cases_eq}
use Rattle.std.proofs.lemmas.Bool.Decides.{nat_tests}
use Rattle.std.proofs.lemmas.Cmp.{nat_cmp_total}
use Rattle.std.proofs.lemmas.Map.Lookups.{exact_unsigned}
use Rattle.std.proofs.lemmas.Map.Views.{btree_set_contains_iff}
use Rattle.std.proofs.lemmas.Option.{same_Some}
use Rattle.vt_syntax.specs.declared.leaf.Leaf.{Leaf}

-- The numbers of leaves, one after the other, in a set.

module _ (old new : BTreeSet ℕ) (node : ℕ) (updates : Updates nat_cmp old new node true) where
  differ : (x y : ℕ) → (x ≡ y → ⊥) → is_at (nat_cmp x) y ≡ false
  differ x y not = let other : x ≢ y = not in grind (arith, nat_tests)

  itself : Contains new.keys node
  itself = (btree_set_contains_iff nat_cmp_total exact_unsigned new node).0 updates.1

  kept : (other : ℕ) → Contains old.keys other → Contains new.keys other
  kept other is = elim (cases_eq node other) [
    | inl same ↦ subst (Contains new.keys) same itself
    | inr not ↦ (btree_set_contains_iff nat_cmp_total exact_unsigned new other).0 (updates.2 other (differ node other not) ∙ (btree_set_contains_iff nat_cmp_total exact_unsigned old other).1 is)
  ]

-- one more leaf
pub asked-next : (leaves : List Leaf) (index : ℕ) (leaf : Leaf) (old new : BTreeSet ℕ) → slice_get leaves index ≡ Some leaf → Updates nat_cmp old new leaf.node true
    → ((place : ℕ) (one : Leaf) → place < index → slice_get leaves place ≡ Some one → Contains old.keys one.node)
    → (place : ℕ) (one : Leaf) → place < index + 1 → slice_get leaves place ≡ Some one → Contains new.keys one.node
asked-next leaves index leaf old new is updates before place one less one_is = elim (cases_eq place index) [
  | inl same ↦ (let equal : leaf ≡ one = same_Some leaf one (sym is ∙ ap (slice_get leaves) (sym same) ∙ one_is) in subst (λ (own : Leaf). Contains new.keys own.node) equal (itself old new leaf.node updates))
  | inr not ↦ kept old new leaf.node updates one.node (before place one (omega (arith, less, not)) one_is)
]
