use Rattle.std.proofs.Common.{◌≡◌, ◌≢◌, ℕ, ◌<◌, nat_eq, Bool, true, false, List, [], ◌∷◌, length, map, slice_get, Option, Some, None, refl, ap, sym, ◌∙◌, eq-eqb, arith}
use Rattle.std.proofs.lemmas.Bool.Decides.{nat_tests}
use Rattle.std.proofs.lemmas.Option.{same_Some}
use Rattle.std.proofs.lemmas.List.{map-id}
use Rattle.vt_dec.specs.declared.side.Side.{Side}
use Rattle.vt_dec.specs.declared.side.Side.TheVariants.{Left, Right}
use Rattle.vt_lex.specs.declared.span.Span.{Span}
use Rattle.vt_syntax.specs.declared.core_expr.Core.{Core}
use Rattle.vt_syntax.specs.declared.core_expr.Form.{Form, Literal, Name, Const, Hole}
use Rattle.vt_syntax.specs.declared.core_program.CoreDef.{CoreDef}
use Rattle.vt_syntax.specs.declared.core_program.CoreProgram.{CoreProgram}
use Rattle.vt_syntax.specs.declared.leaf.Leaf.{Leaf}
use Rattle.vt_syntax.specs.CoreTrees.{core, fun_of, app_of, let_of, let_rec_of, choice_of, fun_form, app_form, let_form, let_rec_form, choice_form}
use Rattle.vt_syntax.specs.Leaves.{HaveDifferentNumbers}
use Rattle.vt_syntax.specs.Programs.{binding, nested, whole}
use Rattle.vt_syntax.specs.Selection.{chosen, selected_form, selected_core, selected_core_def, selected_core_program, IsPlainForm}
use Rattle.vt_syntax.specs.Holes.{where_same, with_hole, core_with_hole, def_with_hole, program_with_hole}
use Rattle.vt_syntax.specs.Varying.{leaf_index, or_hole, varied, core_varied, def_varied, program_varied, TakesNone, TakesOne}
use Rattle.vt_syntax.proofs.LeafPlaces.{found-leaf, leaf-found, found-within}

-- What a decision selects from a plain program of which the leaves are varied: the program where it takes
-- Right nowhere, and the program with one leaf replaced where it takes Right for that leaf alone.

module _ (leaves : List Leaf) (taken : ℕ → Option Side) where
  module _ (left : (node place : ℕ) → leaf_index leaves node ≡ Some place → taken place ≡ Some Left) where
    left-leaf : (node : ℕ) (c : Core) → selected_core taken c ≡ c → selected_core taken (or_hole (leaf_index leaves node) c) ≡ c
    left-leaf node c stays = by (leaf_index leaves node) refl
      where
        by : (o : Option ℕ) → leaf_index leaves node ≡ o → selected_core taken (or_hole o c) ≡ c
        by None e = stays
        by (Some place) e =
            ap (λ side. chosen side (selected_core taken c) (core c.node c.span Hole) (core c.node c.span (choice_form place (selected_core taken c) (core c.node c.span Hole)))) (left node place e)
            ∙ stays

    none-form : (node : ℕ) (at : Span) (form : Form) → IsPlainForm form → selected_core taken (varied leaves node at form) ≡ core node at form
    none-form node at (Literal literal) plain = left-leaf node (core node at (Literal literal)) refl
    none-form node at (Name distance) plain = left-leaf node (core node at (Name distance)) refl
    none-form node at (Const id) plain = left-leaf node (core node at (Const id)) refl
    none-form node at Hole plain = refl
    none-form node at (fun_of n by body) plain = ap (λ c. core node at (fun_form c)) (none-form n by body plain)
    none-form node at (app_of n by function m to argument) plain =
        let f = none-form n by function plain.0 in
        let g = none-form m to argument plain.1 in
        λ i. core node at (app_form (f i) (g i))
    none-form node at (let_of n by bound m to body) plain =
        let f = none-form n by bound plain.0 in
        let g = none-form m to body plain.1 in
        λ i. core node at (let_form (f i) (g i))
    none-form node at (let_rec_of name name_at n by bound m to body) plain =
        let f = none-form n by bound plain.0 in
        let g = none-form m to body plain.1 in
        λ i. core node at (let_rec_form name name_at (f i) (g i))
    none-form node at (choice_of dim n by left m to right) plain = absurd plain

  module _ (one : Leaf)
      (place : ℕ) (known : leaf_index leaves one.node ≡ Some place) (right : taken place ≡ Some Right)
      (left : (node other : ℕ) → node ≢ one.node → leaf_index leaves node ≡ Some other → taken other ≡ Some Left) where
    one-leaf : (node : ℕ) (at : Span) (form : Form) → selected_form taken node at form ≡ core node at form
        → selected_core taken (or_hole (leaf_index leaves node) (core node at form)) ≡ where_same (nat_eq node one.node) (core node at Hole) (core node at form)
    one-leaf node at form stays = by (nat_eq node one.node) refl
      where
        c : Core
        c = core node at form

        choice : ℕ → Option Side → Core
        choice dim side = chosen side (selected_core taken c) (core node at Hole) (core node at (choice_form dim (selected_core taken c) (core node at Hole)))

        other : (o : Option ℕ) → ((dim : ℕ) → o ≡ Some dim → taken dim ≡ Some Left) → selected_core taken (or_hole o c) ≡ c
        other None h = stays
        other (Some dim) h = ap (choice dim) (h dim refl) ∙ stays

        by : (b : Bool) → nat_eq node one.node ≡ b → selected_core taken (or_hole (leaf_index leaves node) c) ≡ where_same b (core node at Hole) c
        by true e =
            let same : node ≡ one.node = grind (arith, nat_tests, e) in
            ap (λ o. selected_core taken (or_hole o c)) (ap (leaf_index leaves) same ∙ known) ∙ ap (choice place) right
        by false e =
            let differ : node ≢ one.node = λ same. grind (arith, nat_tests, e, same) in
            other (leaf_index leaves node) (λ dim is. left node dim differ is)

    one-form : (node : ℕ) (at : Span) (form : Form) → IsPlainForm form → selected_core taken (varied leaves node at form) ≡ with_hole one.node node at form
    one-form node at (Literal literal) plain = one-leaf node at (Literal literal) refl
    one-form node at (Name distance) plain = one-leaf node at (Name distance) refl
    one-form node at (Const id) plain = one-leaf node at (Const id) refl
    one-form node at Hole plain = refl
    one-form node at (fun_of n by body) plain = ap (λ c. core node at (fun_form c)) (one-form n by body plain)
    one-form node at (app_of n by function m to argument) plain =
        let f = one-form n by function plain.0 in
        let g = one-form m to argument plain.1 in
        λ i. core node at (app_form (f i) (g i))
    one-form node at (let_of n by bound m to body) plain =
        let f = one-form n by bound plain.0 in
        let g = one-form m to body plain.1 in
        λ i. core node at (let_form (f i) (g i))
    one-form node at (let_rec_of name name_at n by bound m to body) plain =
        let f = one-form n by bound plain.0 in
        let g = one-form m to body plain.1 in
        λ i. core node at (let_rec_form name name_at (f i) (g i))
    one-form node at (choice_of dim n by left m to right) plain = absurd plain

-- the parts of a plain program
plain-bound : (def : CoreDef) (recursive : Bool) (rest : Core) → IsPlainForm (binding def recursive rest) → IsPlainForm def.body.form × IsPlainForm rest.form
plain-bound def true rest h = h
plain-bound def false rest h = h

-- what is selected from each plain part is selected from the program
module _ (leaves : List Leaf) (taken : ℕ → Option Side) (made : Core → Core) (same : (c : Core) → IsPlainForm c.form → selected_core taken (core_varied leaves c) ≡ made c) where
  of-defs : (defs : List CoreDef) (main : Core) → IsPlainForm (nested defs main).form
      → map (selected_core_def taken) (map (def_varied leaves) defs) ≡ map (λ (def : CoreDef). record def { body = made def.body }) defs
  of-defs [] main plain = refl
  of-defs (def ∷ defs) main plain =
      let (own, rest) = plain-bound def def.recursive (nested defs main) plain in
      let p = same def.body own in
      let q = of-defs defs main rest in
      λ i. record def { body = p i } ∷ q i

  of-main : (defs : List CoreDef) (main : Core) → IsPlainForm (nested defs main).form → selected_core taken (core_varied leaves main) ≡ made main
  of-main [] main plain = same main plain
  of-main (def ∷ defs) main plain = of-main defs main (plain-bound def def.recursive (nested defs main) plain).1

  of-program : (program other : CoreProgram) → IsPlainForm (whole program).form
      → other.defs ≡ map (λ (def : CoreDef). record def { body = made def.body }) program.defs → other.main ≡ made program.main
      → selected_core_program taken (program_varied leaves program) ≡ other
  of-program program other plain defs main =
      let p = of-defs program.defs program.main plain ∙ sym defs in
      let q = of-main program.defs program.main plain ∙ sym main in
      λ i. record { defs = p i; main = q i }

-- Where Right is taken nowhere, the program is selected.
pub program-none : (leaves : List Leaf) (decision : List Side) (program : CoreProgram) → IsPlainForm (whole program).form → TakesNone (length leaves) decision
    → selected_core_program (slice_get decision) (program_varied leaves program) ≡ program
program-none leaves decision program plain none =
    of-program leaves (slice_get decision) (λ c. c)
    (λ c h. none-form leaves (slice_get decision) (λ node place is. none place (found-within leaves node place is)) c.node c.span c.form h)
    program program plain (sym (map-id program.defs)) refl

-- Where Right is taken for one leaf alone, the program with a hole for this leaf is.
pub program-one : (leaves : List Leaf) (decision : List Side) (program : CoreProgram) (place : ℕ) (one : Leaf) → IsPlainForm (whole program).form → HaveDifferentNumbers leaves
    → slice_get leaves place ≡ Some one → TakesOne (length leaves) place decision
    → selected_core_program (slice_get decision) (program_varied leaves program) ≡ program_with_hole one.node program
program-one leaves decision program place one plain different at takes =
    of-program leaves (slice_get decision) (core_with_hole one.node)
    (λ c h. one-form leaves (slice_get decision) one place (leaf-found leaves different place one at) takes.right left c.node c.span c.form h)
    program (program_with_hole one.node program) plain refl refl
  where
    left : (node other : ℕ) → node ≢ one.node → leaf_index leaves node ≡ Some other → slice_get decision other ≡ Some Left
    left node other differ is =
        let (found, there, same) = found-leaf leaves node other is in
        takes.left other (found-within leaves node other is)
        (λ e. differ (sym same ∙ ap (λ (l : Leaf). l.node) (same_Some found one (sym there ∙ ap (slice_get leaves) e ∙ at))))
