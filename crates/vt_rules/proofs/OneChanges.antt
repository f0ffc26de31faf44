use Rattle.std.proofs.Common.{◌≡◌, ◌<◌, List, length, get_or, slice_get, Contains, All, Some, sym, ap, subst, ◌∙◌, inl, inr, arith}
use Rattle.std.proofs.lemmas.Option.{same_Some}
use Rattle.std.proofs.lemmas.List.{get_or-map, length-map}
use Rattle.vt_syntax.specs.declared.core_expr.Core.{Core}
use Rattle.vt_syntax.specs.declared.leaf.Leaf.{Leaf}
use Rattle.vt_type.specs.declared.change.ChangeLine.{ChangeLine}
use Rattle.vt_type.specs.Constants.{Constant}
use Rattle.vt_rules.specs.Changes.{Cures, without, IsChangeOf, IsChanges, ComesBefore}
use Rattle.vt_rules.specs.Env.{Empty}
use Rattle.vt_rules.proofs.Marking.{unmarked}
use Rattle.vt_rules.proofs.OneList.{one_list}
use Rattle.vt_rules.proofs.PrincipalForms.{one_principal_pair}
use Rattle.vt_rules.proofs.Shapes.{pair_parts}

-- A program has one list of changes.

-- no two lines come each before the other
strict : (one other : ChangeLine) → ComesBefore one other → ComesBefore other one → ⊥
strict one other (inl h) (inl k) = omega arith
strict one other (inl h) (inr (e, k)) = omega arith
strict one other (inr (e, h)) (inl k) = omega arith
strict one other (inr (e, inl h)) (inr (f, inl k)) = omega arith
strict one other (inr (e, inl h)) (inr (f, inr (g, k))) = omega arith
strict one other (inr (e, inr (g, h))) (inr (f, inl k)) = omega arith
strict one other (inr (e, inr (g, h))) (inr (f, inr (i, k))) = omega arith

module _ (K : List Constant) (program : Core) where
  -- a leaf has one change line
  one_line : (leaf : Leaf) (one other : ChangeLine) → one.leaf ≡ other.leaf → IsChangeOf K program leaf one → IsChangeOf K program leaf other → one ≡ other
  one_line leaf one other same f g =
      let types = sym f.canonical ∙ one_principal_pair K leaf.node _ one.wanted one.result other.wanted other.result f.principal g.principal ∙ g.canonical in
      let (wanted, result) = pair_parts one.wanted one.result other.wanted other.result types in
      let class = f.class_is ∙ sym g.class_is in
      λ j. record { leaf = same j; class = class j; wanted = wanted j; result = result j }

  module _ (leaves : List Leaf) where
    -- the leaf of a line
    abbrev IsLineOfSome : ChangeLine → Type 0
    IsLineOfSome line = (leaf : Leaf) × (slice_get leaves line.leaf ≡ Some leaf) × IsChangeOf K program leaf line

    leaf_of : (lines : List ChangeLine) → All IsLineOfSome lines → (line : ChangeLine) → Contains lines line → IsLineOfSome line
    leaf_of lines all line (k, within, e) = subst IsLineOfSome e (all k line within)

    also_there : (lines others : List ChangeLine) → IsChanges K program leaves lines → IsChanges K program leaves others → (line : ChangeLine) → Contains lines line → Contains others line
    also_there lines others changes other line h =
        let (leaf, at, is) = leaf_of lines changes.lines_are line h in
        let cures : Cures K program leaf = (line.result, unmarked K leaf.node Empty (without leaf program) line.result line.wanted is.principal.typed) in
        let (k, within, e) = other.complete line.leaf leaf at cures in
        let within' : k < length others = omega (arith, length-map others (λ (l : ChangeLine). l.leaf)) in
        let found = get_or others k line in
        let same : found.leaf ≡ line.leaf = sym (get_or-map (λ (l : ChangeLine). l.leaf) others k line line.leaf within') ∙ e in
        let (leaf', at', is') = other.lines_are k line within' in
        let one_leaf : leaf' ≡ leaf = same_Some leaf' leaf (sym at' ∙ ap (slice_get leaves) same ∙ at) in
        (k, within', one_line leaf found line same (subst (λ l. IsChangeOf K program l found) one_leaf is') is)

    pub one_list_of_changes : (lines others : List ChangeLine) → IsChanges K program leaves lines → IsChanges K program leaves others → lines ≡ others
    one_list_of_changes lines others changes other =
        one_list ComesBefore strict lines others changes.in_order other.in_order (also_there lines others changes other) (also_there others lines other changes)
