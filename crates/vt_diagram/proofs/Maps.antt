use Rattle.std.proofs.Common.{◌≡◌, ◌⊎◌, Bool, true, false, Option, Some, None, refl, ap, sym, ◌∙◌, inl, inr}
use Rattle.std.specs.declared.cmp.Ordering.{Ordering}
use Rattle.std.specs.declared.cmp.Ordering.TheVariants.{Less, Equal, Greater}
use Rattle.std.specs.Ordering.{is_eq}
use Rattle.std.specs.BTreeMap.{BTreeMap, get, is_at, Updates}
use Rattle.std.proofs.lemmas.Map.Lookups.{CmpEqualImpliesEq}
use Rattle.std.proofs.lemmas.Option.{same_Some}

-- A map in which a key has got a value, where keys that are equal by their order are one.

is_equal : (order : Ordering) → is_eq order ≡ true → order ≡ Equal
is_equal Less e = absurd cc
is_equal Equal e = refl
is_equal Greater e = absurd cc

pub none_some : {X : Type 0} (x : X) → ◌≡◌ {A = Option X} None (Some x) → ⊥
none_some x e = cc

module _ {K X : Type 0} (cmp : K → K → Ordering) (exact : CmpEqualImpliesEq cmp) (old new : BTreeMap K X) (key : K) (value : X) (updates : Updates cmp old new key (Some value)) where
  same_key : (own : K) → is_at (cmp key) own ≡ true → key ≡ own
  same_key own e = exact key own (is_equal (cmp key own) e)

  -- what it has now is new or was there
  pub new_or_old : (own : K) (found : X) → get cmp new own ≡ Some found → ((key ≡ own) × (value ≡ found)) ⊎ (get cmp old own ≡ Some found)
  new_or_old own found is = by (is_at (cmp key) own) refl
    where
      by : (here : Bool) → is_at (cmp key) own ≡ here → ((key ≡ own) × (value ≡ found)) ⊎ (get cmp old own ≡ Some found)
      by true e = let same = same_key own e in inl (same, same_Some value found (sym updates.1 ∙ (ap (get cmp new) same ∙ is)))
      by false e = inr (sym (updates.2 own e) ∙ is)

  -- what was there stays, where the key was not there
  pub old_stays : (own : K) (found : X) → get cmp old key ≡ None → get cmp old own ≡ Some found → get cmp new own ≡ Some found
  old_stays own found absent is = by (is_at (cmp key) own) refl
    where
      by : (here : Bool) → is_at (cmp key) own ≡ here → get cmp new own ≡ Some found
      by true e = absurd (none_some found (sym absent ∙ (ap (get cmp old) (same_key own e) ∙ is)))
      by false e = updates.2 own e ∙ is
