use Rattle.std.proofs.Common.{◌≡◌, ℕ, suc, ◌≤◌, List, [], ◌∷◌, ◌++◌, length, Option, Some, None, refl, ap, sym, subst, ◌∙◌, arith}
use Rattle.vt_dec.specs.declared.side.Side.{Side}
use Rattle.vt_dec.specs.declared.side.Side.TheVariants.{Left, Right}
use Rattle.vt_lex.specs.declared.span.Span.{Span}
use Rattle.vt_syntax.specs.declared.core_expr.Core.{Core}
use Rattle.vt_syntax.specs.declared.core_expr.Form.{Form, Literal, Name, Const, Hole}
use Rattle.vt_syntax.specs.declared.core_program.CoreProgram.{CoreProgram}
use Rattle.vt_syntax.specs.declared.leaf.Leaf.{Leaf}
use Rattle.vt_syntax.specs.Checking.{numbers, numbers_of, Rise, IsInCheckingOrder}
use Rattle.vt_syntax.specs.CoreTrees.{core, fun_of, app_of, let_of, let_rec_of, choice_of, fun_form, app_form, let_form, let_rec_form, choice_form}
use Rattle.vt_syntax.specs.Programs.{whole}
use Rattle.vt_syntax.specs.Scoping.{IsScoped, HasConstants, HasDims, IsClosed}
use Rattle.vt_syntax.specs.Selection.{chosen, selected_core, selected_core_program, IsPlainForm}
use Rattle.vt_syntax.specs.Varying.{leaf_index, or_hole, varied, program_varied}
use Rattle.vt_syntax.proofs.LeafPlaces.{found-within}
use Rattle.vt_syntax.proofs.WholeProgram.{whole-varied}
use Rattle.vt_infer.proofs.KnownLemmas.{nested_selected}

-- What inference asks of a program holds of the program with its leaves varied.

module _ (leaves : List Leaf) where
  -- each name has its binder
  scoped-or : (binders : ℕ) (o : Option ℕ) (c : Core) → IsScoped binders c.form → IsScoped binders (or_hole o c).form
  scoped-or binders None c h = h
  scoped-or binders (Some dim) c h = (h, tt)

  scoped : (binders node : ℕ) (at : Span) (form : Form) → IsScoped binders form → IsScoped binders (varied leaves node at form).form
  scoped binders node at (Literal literal) h = scoped-or binders (leaf_index leaves node) (core node at (Literal literal)) h
  scoped binders node at (Name distance) h = scoped-or binders (leaf_index leaves node) (core node at (Name distance)) h
  scoped binders node at (Const id) h = scoped-or binders (leaf_index leaves node) (core node at (Const id)) h
  scoped binders node at Hole h = h
  scoped binders node at (fun_of n by body) h = scoped (suc binders) n by body h
  scoped binders node at (app_of n by function m to argument) h = (scoped binders n by function h.0, scoped binders m to argument h.1)
  scoped binders node at (let_of n by bound m to body) h = (scoped binders n by bound h.0, scoped (suc binders) m to body h.1)
  scoped binders node at (let_rec_of name name_at n by bound m to body) h = (scoped (suc binders) n by bound h.0, scoped (suc binders) m to body h.1)
  scoped binders node at (choice_of dim n by left m to right) h = (scoped binders n by left h.0, scoped binders m to right h.1)

  -- each constant is in the table
  constants-or : (count : ℕ) (o : Option ℕ) (c : Core) → HasConstants count c.form → HasConstants count (or_hole o c).form
  constants-or count None c h = h
  constants-or count (Some dim) c h = (h, tt)

  constants : (count node : ℕ) (at : Span) (form : Form) → HasConstants count form → HasConstants count (varied leaves node at form).form
  constants count node at (Literal literal) h = constants-or count (leaf_index leaves node) (core node at (Literal literal)) h
  constants count node at (Name distance) h = constants-or count (leaf_index leaves node) (core node at (Name distance)) h
  constants count node at (Const id) h = constants-or count (leaf_index leaves node) (core node at (Const id)) h
  constants count node at Hole h = h
  constants count node at (fun_of n by body) h = constants count n by body h
  constants count node at (app_of n by function m to argument) h = (constants count n by function h.0, constants count m to argument h.1)
  constants count node at (let_of n by bound m to body) h = (constants count n by bound h.0, constants count m to body h.1)
  constants count node at (let_rec_of name name_at n by bound m to body) h = (constants count n by bound h.0, constants count m to body h.1)
  constants count node at (choice_of dim n by left m to right) h = (constants count n by left h.0, constants count m to right h.1)

  -- there is a dimension for each leaf
  dims-or : (count : ℕ) → length leaves ≤ count → (node : ℕ) (o : Option ℕ) (c : Core) → leaf_index leaves node ≡ o → HasDims count c.form → HasDims count (or_hole o c).form
  dims-or count le node None c is h = h
  dims-or count le node (Some dim) c is h = let within = found-within leaves node dim is in (omega arith, h, tt)

  dims : (count : ℕ) → length leaves ≤ count → (node : ℕ) (at : Span) (form : Form) → HasDims count form → HasDims count (varied leaves node at form).form
  dims count le node at (Literal literal) h = dims-or count le node (leaf_index leaves node) (core node at (Literal literal)) refl h
  dims count le node at (Name distance) h = dims-or count le node (leaf_index leaves node) (core node at (Name distance)) refl h
  dims count le node at (Const id) h = dims-or count le node (leaf_index leaves node) (core node at (Const id)) refl h
  dims count le node at Hole h = h
  dims count le node at (fun_of n by body) h = dims count le n by body h
  dims count le node at (app_of n by function m to argument) h = (dims count le n by function h.0, dims count le m to argument h.1)
  dims count le node at (let_of n by bound m to body) h = (dims count le n by bound h.0, dims count le m to body h.1)
  dims count le node at (let_rec_of name name_at n by bound m to body) h = (dims count le n by bound h.0, dims count le m to body h.1)
  dims count le node at (choice_of dim n by left m to right) h = (h.0, dims count le n by left h.1, dims count le m to right h.2)

  pub closed-varied : (count most : ℕ) (program : CoreProgram) → length leaves ≤ most → IsClosed count most program → IsClosed count most (program_varied leaves program)
  closed-varied count most program le h = record {
    names = subst (λ (c : Core). IsScoped 0 c.form) (sym (whole-varied leaves program)) (scoped 0 (whole program).node (whole program).span (whole program).form h.names);
    constants_are = subst (λ (c : Core). HasConstants count c.form) (sym (whole-varied leaves program)) (constants count (whole program).node (whole program).span (whole program).form h.constants_are);
    dims_are = subst (λ (c : Core). HasDims most c.form) (sym (whole-varied leaves program)) (dims most le (whole program).node (whole program).span (whole program).form h.dims_are);
  }

  -- what is selected has the numbers of the program
  module _ (taken : ℕ → Side) where
    abbrev sides : ℕ → Option Side
    sides dim = Some (taken dim)

    one-of : (side : Side) (dim node : ℕ) (at : Span) (form : Form) → numbers_of (selected_core sides (core node at form)) ≡ node ∷ []
        → numbers_of (chosen (Some side) (selected_core sides (core node at form)) (core node at Hole) (core node at (choice_form dim (selected_core sides (core node at form)) (core node at Hole)))) ≡ node ∷ []
    one-of Left dim node at form own = own
    one-of Right dim node at form own = refl

    numbers-or : (o : Option ℕ) (node : ℕ) (at : Span) (form : Form) → numbers_of (selected_core sides (core node at form)) ≡ node ∷ [] → numbers_of (selected_core sides (or_hole o (core node at form))) ≡ node ∷ []
    numbers-or None node at form own = own
    numbers-or (Some dim) node at form own = one-of (taken dim) dim node at form own

    kept : (node : ℕ) (at : Span) (form : Form) → IsPlainForm form → numbers_of (selected_core sides (varied leaves node at form)) ≡ numbers node form
    kept node at (Literal literal) plain = numbers-or (leaf_index leaves node) node at (Literal literal) refl
    kept node at (Name distance) plain = numbers-or (leaf_index leaves node) node at (Name distance) refl
    kept node at (Const id) plain = numbers-or (leaf_index leaves node) node at (Const id) refl
    kept node at Hole plain = refl
    kept node at (fun_of n by body) plain = ap (λ list. list ++ node ∷ []) (kept n by body plain)
    kept node at (app_of n by function m to argument) plain =
        let f = kept n by function plain.0 in
        let g = kept m to argument plain.1 in
        λ i. f i ++ g i ++ node ∷ []
    kept node at (let_of n by bound m to body) plain =
        let f = kept n by bound plain.0 in
        let g = kept m to body plain.1 in
        λ i. f i ++ node ∷ g i
    kept node at (let_rec_of name name_at n by bound m to body) plain =
        let f = kept n by bound plain.0 in
        let g = kept m to body plain.1 in
        λ i. f i ++ node ∷ g i
    kept node at (choice_of dim n by left m to right) plain = absurd plain

-- a program without leaves that are varied
same_form : (node : ℕ) (at : Span) (form : Form) → varied [] node at form ≡ core node at form
same_form node at (Literal literal) = refl
same_form node at (Name distance) = refl
same_form node at (Const id) = refl
same_form node at Hole = refl
same_form node at (fun_of n by body) = ap (λ c. core node at (fun_form c)) (same_form n by body)
same_form node at (app_of n by function m to argument) =
    let f = same_form n by function in
    let g = same_form m to argument in
    λ i. core node at (app_form (f i) (g i))
same_form node at (let_of n by bound m to body) =
    let f = same_form n by bound in
    let g = same_form m to body in
    λ i. core node at (let_form (f i) (g i))
same_form node at (let_rec_of name name_at n by bound m to body) =
    let f = same_form n by bound in
    let g = same_form m to body in
    λ i. core node at (let_rec_form name name_at (f i) (g i))
same_form node at (choice_of dim n by left m to right) =
    let f = same_form n by left in
    let g = same_form m to right in
    λ i. core node at (choice_form dim (f i) (g i))

numbers-whole : (leaves : List Leaf) (taken : ℕ → Side) (program : CoreProgram) → IsPlainForm (whole program).form
    → numbers_of (whole (selected_core_program (λ dim. Some (taken dim)) (program_varied leaves program))) ≡ numbers_of (whole program)
numbers-whole leaves taken program plain =
    let varied_program = program_varied leaves program in
    ap numbers_of (sym (nested_selected (λ dim. Some (taken dim)) varied_program.defs varied_program.main))
    ∙ ap (λ c. numbers_of (selected_core (λ dim. Some (taken dim)) c)) (whole-varied leaves program)
    ∙ kept leaves taken (whole program).node (whole program).span (whole program).form plain

plain-numbers : (taken : ℕ → Side) (program : CoreProgram) → IsPlainForm (whole program).form
    → numbers_of (whole (selected_core_program (λ dim. Some (taken dim)) program)) ≡ numbers_of (whole program)
plain-numbers taken program plain =
    ap numbers_of (sym (nested_selected (λ dim. Some (taken dim)) program.defs program.main))
    ∙ ap (λ c. numbers_of (selected_core (λ dim. Some (taken dim)) c)) (sym (same_form (whole program).node (whole program).span (whole program).form))
    ∙ kept [] taken (whole program).node (whole program).span (whole program).form plain

pub order-varied : (leaves : List Leaf) (program : CoreProgram) → IsPlainForm (whole program).form → IsInCheckingOrder program → IsInCheckingOrder (program_varied leaves program)
order-varied leaves program plain order taken =
    subst Rise (plain-numbers taken program plain ∙ sym (numbers-whole leaves taken program plain)) (order taken)
