use Rattle.std.proofs.Common.{◌≡◌, ◌⊎◌, ℕ, List, slice_get, Option, Some, None, refl, ap, sym, subst, ◌∙◌, inl, inr, arith}
use Rattle.std.specs.BTreeMap.{BTreeMap, get, Updates}
use Rattle.std.specs.Ordering.{nat_cmp}
use Rattle.std.proofs.lemmas.Map.Lookups.{exact_unsigned}
use Rattle.vt_dec.specs.declared.side.Side.{Side}
use Rattle.vt_dec.specs.declared.side.Side.TheVariants.{Left, Right}
use Rattle.vt_diagram.specs.declared.entry.Entry.{Entry}
use Rattle.vt_diagram.specs.Renaming.{AreRenamed, IsRenamed, name_of}
use Rattle.vt_diagram.specs.Tables.{Holds, value_at, tree_at, IsFork, IsJoined, Grows}
use Rattle.vt_diagram.specs.Trees.{Tip, value_in, IsOrdered, by_side}
use Rattle.vt_diagram.proofs.Growth.{grows_on}
use Rattle.vt_diagram.proofs.Maps.{new_or_old}

-- Diagrams of another table, with each value replaced.

module _ (bound : ℕ) (names : List ℕ) (others : List Entry) where
  renamed-grown : (old new : List Entry) (id own : ℕ) → Grows old new → IsRenamed bound names others old id own → IsRenamed bound names others new id own
  renamed-grown old new id own grows renamed =
      let is = grows.kept own renamed.within in
      record {
        held = renamed.held;
        within = omega (arith, renamed.within, grows.more);
        at_each = λ decision. rw is (renamed.at_each decision);
        ordered = rw is renamed.ordered;
      }

  pub known-grown : (old new : List Entry) (known : BTreeMap ℕ ℕ) → Grows old new → AreRenamed bound names others old known → AreRenamed bound names others new known
  known-grown old new known grows all id own found = renamed-grown old new id own grows (all id own found)

  pub known-more : (entries : List Entry) (old new : BTreeMap ℕ ℕ) (id own : ℕ) → AreRenamed bound names others entries old → IsRenamed bound names others entries id own → Updates nat_cmp old new id (Some own)
      → AreRenamed bound names others entries new
  known-more entries old new id own all renamed updates key found is = by (new_or_old nat_cmp exact_unsigned old new id own updates key found is)
    where
      by : ((id ≡ key) × (own ≡ found)) ⊎ (get nat_cmp old key ≡ Some found) → IsRenamed bound names others entries key found
      by (inl new) = subst (λ k. IsRenamed bound names others entries k found) new.0 (subst (IsRenamed bound names others entries id) new.1 renamed)
      by (inr old) = all key found old

  pub renamed-leaf : (entries : List Entry) (id own value name : ℕ) → Holds others id → tree_at others id ≡ Tip value → Holds entries own → tree_at entries own ≡ Tip name → name ≡ name_of names value → IsRenamed bound names others entries id own
  renamed-leaf entries id own value name held was within is named = record {
    held = held;
    within = within;
    at_each = λ decision. ap (value_in decision) is ∙ named ∙ ap (λ tree. name_of names (value_in decision tree)) (sym was);
    ordered = λ from ordered. subst (IsOrdered bound from) (sym is) tt;
  }

  name_of-side : (side : Option Side) (left right : ℕ) → by_side side (name_of names left) (name_of names right) ≡ name_of names (by_side side left right)
  name_of-side None left right = refl
  name_of-side (Some Left) left right = refl
  name_of-side (Some Right) left right = refl

  pub renamed-choice : (old entries new : List Entry) (id dim left right on_left on_right own : ℕ) → Holds others id → IsFork bound others id dim left right → Grows old entries → IsRenamed bound names others old left on_left
      → IsRenamed bound names others entries right on_right → Grows entries new → IsJoined bound new dim on_left on_right own → IsRenamed bound names others new id own
  renamed-choice old entries new id dim left right on_left on_right own held fork g1 l r g2 made =
      let l' = renamed-grown old new left on_left (grows_on old entries new g1 g2) l in
      let r' = renamed-grown entries new right on_right g2 r in
      record {
        held = held;
        within = made.within;
        at_each = λ d. made.at_each d ∙ (λ i. by_side (slice_get d dim) (l'.at_each d i) (r'.at_each d i)) ∙ name_of-side (slice_get d dim) (value_at others left d) (value_at others right d)
            ∙ ap (λ tree. name_of names (value_in d tree)) (sym fork.is);
        ordered = λ from ordered. made.ordered from (subst (IsOrdered bound from) fork.is ordered).0;
      }
