use Rattle.std.specs.Prelude.{ℕ, nat_eq, Bool, true, false, map}
use Rattle.vt_lex.specs.declared.span.Span.{Span}
use Rattle.vt_syntax.specs.declared.core_expr.Core.{Core}
use Rattle.vt_syntax.specs.declared.core_expr.Form.{Form, Literal, Name, Const, Hole}
use Rattle.vt_syntax.specs.declared.core_program.CoreDef.{CoreDef}
use Rattle.vt_syntax.specs.declared.core_program.CoreProgram.{CoreProgram}
use Rattle.vt_syntax.specs.CoreTrees.{core, fun_of, app_of, let_of, let_rec_of, choice_of, fun_form, app_form, let_form, let_rec_form, choice_form}

-- A leaf replaced by a hole.

-- the first of two where the test holds
abbrev pub where_same : Bool → Core → Core → Core
where_same true one other = one
where_same false one other = other

-- An expression with the leaf of a number, a literal, a name or a constant, replaced by a hole, which keeps
-- the number and the span.
abbrev pub with_hole : ℕ → ℕ → Span → Form → Core
with_hole leaf node at (Literal literal) = where_same (nat_eq node leaf) (core node at Hole) (core node at (Literal literal))
with_hole leaf node at (Name distance) = where_same (nat_eq node leaf) (core node at Hole) (core node at (Name distance))
with_hole leaf node at (Const id) = where_same (nat_eq node leaf) (core node at Hole) (core node at (Const id))
with_hole leaf node at Hole = core node at Hole
with_hole leaf node at (fun_of n by body) = core node at (fun_form (with_hole leaf n by body))
with_hole leaf node at (app_of n by function m to argument) =
    core node at (app_form (with_hole leaf n by function) (with_hole leaf m to argument))
with_hole leaf node at (let_of n by bound m to body) =
    core node at (let_form (with_hole leaf n by bound) (with_hole leaf m to body))
with_hole leaf node at (let_rec_of name name_at n by bound m to body) =
    core node at (let_rec_form name name_at (with_hole leaf n by bound) (with_hole leaf m to body))
with_hole leaf node at (choice_of dim n by left m to right) =
    core node at (choice_form dim (with_hole leaf n by left) (with_hole leaf m to right))

abbrev pub core_with_hole : ℕ → Core → Core
core_with_hole leaf c = with_hole leaf c.node c.span c.form

-- a definition, and a program: the leaf of the number is replaced wherever it stands
abbrev pub def_with_hole : ℕ → CoreDef → CoreDef
def_with_hole leaf def = record def { body = core_with_hole leaf def.body }

abbrev pub program_with_hole : ℕ → CoreProgram → CoreProgram
program_with_hole leaf program = record {
  defs = map (def_with_hole leaf) program.defs;
  main = core_with_hole leaf program.main;
}
