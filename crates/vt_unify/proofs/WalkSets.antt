use Rattle.std.proofs.Common.{◌≡◌, ◌≢◌, ◌⊎◌, ℕ, ◌+◌, Bool, true, false, not, cond, sym, subst, ◌∙◌, inl, inr, arith}
use Rattle.std.specs.Bool.{OnFalse}
use Rattle.std.specs.BTreeSet.{BTreeSet, contains, btree_set_len, IsUnchanged, Updates}
use Rattle.std.specs.BTreeMap.{is_at}
use Rattle.std.specs.List.{Contains}
use Rattle.std.specs.Ordering.{nat_cmp}
use Rattle.std.proofs.lemmas.Bool.{cases_eq, not-false}
use Rattle.std.proofs.lemmas.Bool.Decides.{nat_tests}
use Rattle.std.proofs.lemmas.Cmp.{nat_cmp_total}
use Rattle.std.proofs.lemmas.Map.Lookups.{exact_unsigned}
use Rattle.std.proofs.lemmas.Map.Views.{btree_set_contains_iff}
use Rattle.vt_unify.specs.CellSets.{IsInserted}

-- What an insertion into a set of numbers says of its members.

pub apart : (x y : ℕ) → (x ≡ y → ⊥) → is_at (nat_cmp x) y ≡ false
apart x y differ = let other : x ≢ y = differ in grind (arith, nat_tests)

module _ (s : BTreeSet ℕ) (q : ℕ) where
  member : Contains s.keys q → contains nat_cmp s q ≡ true
  member h = (btree_set_contains_iff nat_cmp_total exact_unsigned s q).1 h

  is_member : contains nat_cmp s q ≡ true → Contains s.keys q
  is_member h = (btree_set_contains_iff nat_cmp_total exact_unsigned s q).0 h

pub IsInserted-set : (cell : ℕ) (old new : BTreeSet ℕ) (added : Bool) → added ≡ not (contains nat_cmp old cell) → Updates nat_cmp old new cell true → OnFalse added (IsUnchanged old new)
    → (btree_set_len new ≡ btree_set_len old + cond added 1 0) → IsInserted added cell old.keys new.keys
IsInserted-set cell old new true is updates unchanged count = ((λ q. (by q (cases_eq cell q), back q)), count)
  where
    by : (q : ℕ) → (cell ≡ q) ⊎ (cell ≡ q → ⊥) → Contains new.keys q → Contains old.keys q ⊎ (cell ≡ q)
    by q (inl same) h = inr same
    by q (inr differ) h = inl (is_member old q (sym (updates.2 q (apart cell q differ)) ∙ member new q h))

    back : (q : ℕ) → Contains old.keys q ⊎ (cell ≡ q) → Contains new.keys q
    back q (inr same) = subst (Contains new.keys) same (is_member new cell updates.1)
    back q (inl h) = elim (cases_eq cell q) [
      | inl same ↦ subst (Contains new.keys) same (is_member new cell updates.1)
      | inr differ ↦ is_member new q (updates.2 q (apart cell q differ) ∙ member old q h)
    ]
IsInserted-set cell old new false is updates unchanged count = (is_member old cell (not-false (contains nat_cmp old cell) (sym is)), unchanged)
