use Rattle.std.proofs.Common.{◌≡◌, ◌⊎◌, Bool, true, false, Some, None, refl, ap, sym, ◌∙◌, inl, inr}
use Rattle.std.specs.Option.{option_cmp}
use Rattle.std.specs.Ordering.{nat_cmp, is_eq}
use Rattle.std.specs.declared.cmp.Ordering.{Ordering}
use Rattle.std.specs.declared.cmp.Ordering.TheVariants.{Less, Equal, Greater}
use Rattle.std.specs.BTreeSet.{BTreeSet, contains}
use Rattle.std.specs.BTreeMap.{is_at}
use Rattle.std.proofs.lemmas.Map.Lookups.{CmpEqualImpliesEq, exact_unsigned, exact_pairs}
use Rattle.vt_unify.specs.declared.pairs.Pair.{Pair}
use Rattle.vt_unify.specs.Seen.{Key, key_of, cells_cmp, key_cmp}
use Rattle.vt_unify.proofs.seen.Seen.insert.Goals as goal

-- keys that are equal by their order are one

exact_place : CmpEqualImpliesEq (option_cmp nat_cmp)
exact_place None None e = refl
exact_place None (Some y) e = absurd cc
exact_place (Some x) None e = absurd cc
exact_place (Some x) (Some y) e = ap Some (exact_unsigned x y e)

exact_key : CmpEqualImpliesEq key_cmp
exact_key = exact_pairs (option_cmp nat_cmp) cells_cmp exact_place (exact_pairs nat_cmp nat_cmp exact_unsigned exact_unsigned)

equal_order : (o : Ordering) → is_eq o ≡ true → o ≡ Equal
equal_order Less e = absurd cc
equal_order Equal e = refl
equal_order Greater e = absurd cc

same_pair : (one other : Pair) → key_of one ≡ key_of other → one ≡ other
same_pair one other e = λ i. record { context = (e i).0; left = (e i).1.0; right = (e i).1.1 }

only_new : (old new : BTreeSet Key) (key : Key) (pair other : Pair) → key ≡ key_of pair → ((q : Key) → is_at (key_cmp key) q ≡ false → contains key_cmp new q ≡ contains key_cmp old q)
    → contains key_cmp new (key_of other) ≡ true → (contains key_cmp old (key_of other) ≡ true) ⊎ (pair ≡ other)
only_new old new key pair other own others h = by (is_at (key_cmp key) (key_of other)) refl
  where
    by : (b : Bool) → is_at (key_cmp key) (key_of other) ≡ b → (contains key_cmp old (key_of other) ≡ true) ⊎ (pair ≡ other)
    by true e = inr (same_pair pair other (sym own ∙ exact_key key (key_of other) (equal_order (key_cmp key (key_of other)) e)))
    by false e = inl (sym (others (key_of other) e) ∙ h)

pub returns-clause-only : goal.returns-clause-only
returns-clause-only c = λ other h. only_new c.args.self.now.keys c.insert.new.self c.key_for-key.result c.args.pair.now other c.key_for-key.ensures (λ q e. c.in_ok-insert.ensures.updates.2 q e) h
