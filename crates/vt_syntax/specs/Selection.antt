use Rattle.std.specs.Prelude.{ℕ, List, map, Option, Some, None, slice_get}
use Rattle.vt_dec.specs.declared.side.Side.{Side}
use Rattle.vt_dec.specs.declared.side.Side.TheVariants.{Left, Right}
use Rattle.vt_lex.specs.declared.span.Span.{Span}
use Rattle.vt_syntax.specs.declared.expr.Expr.{Expr}
use Rattle.vt_syntax.specs.declared.expr.Exprs.{Exprs, Nil}
use Rattle.vt_syntax.specs.declared.expr.ExprForm.{ExprForm}
use Rattle.vt_syntax.specs.declared.expr.ExprForm as form
use Rattle.vt_syntax.specs.declared.program.Def.{Def}
use Rattle.vt_syntax.specs.declared.program.Program.{Program}
use Rattle.vt_syntax.specs.declared.core_expr.Core.{Core}
use Rattle.vt_syntax.specs.declared.core_expr.Form.{Form, Literal, Name, Const, Hole}
use Rattle.vt_syntax.specs.declared.core_program.CoreDef.{CoreDef}
use Rattle.vt_syntax.specs.declared.core_program.CoreProgram.{CoreProgram}
use Rattle.vt_syntax.specs.SurfaceTrees as surface
use Rattle.vt_syntax.specs.SurfaceTrees.{expr}
use Rattle.vt_syntax.specs.CoreTrees.{fun_of, app_of, let_of, let_rec_of, choice_of, core, fun_form, app_form, let_form, let_rec_form, choice_form}

-- What a decision, which may leave dimensions open, selects from a program: each choice of a decided
-- dimension is replaced by the selection of its alternative; all other forms keep their place and have
-- their parts selected. The dimensions go by names in a program as it is written, and by numbers in
-- the core.

-- the side that is taken, or what stands where none is
abbrev pub chosen : {A : Type 0} → Option Side → A → A → A → A
chosen (Some Left) left right neither = left
chosen (Some Right) left right neither = right
chosen None left right neither = neither

abbrev mutual
  pub selected_expr : (List ℕ → Option Side) → Span → ExprForm → Expr
  selected_expr taken at (form.Number value) = expr at (form.Number value)
  selected_expr taken at form.Quoted = expr at form.Quoted
  selected_expr taken at (form.Truth value) = expr at (form.Truth value)
  selected_expr taken at (form.Name name) = expr at (form.Name name)
  selected_expr taken at form.Hole = expr at form.Hole
  selected_expr taken at (surface.fun_of name name_at by body) = expr at (surface.fun_form name name_at (selected_expr taken by body))
  selected_expr taken at (surface.let_of recursive name name_at by bound to body) =
      expr at (surface.let_form recursive name name_at (selected_expr taken by bound) (selected_expr taken to body))
  selected_expr taken at (surface.if_of by condition to then on otherwise) =
      expr at (surface.if_form (selected_expr taken by condition) (selected_expr taken to then) (selected_expr taken on otherwise))
  selected_expr taken at (surface.match_of by list to empty first first_at rest rest_at on cell) =
      expr at (surface.match_form (selected_expr taken by list) (selected_expr taken to empty) first first_at rest rest_at (selected_expr taken on cell))
  selected_expr taken at (surface.op_of op op_at by left to right) =
      expr at (surface.op_form op op_at (selected_expr taken by left) (selected_expr taken to right))
  selected_expr taken at (surface.apply_of by function to argument) =
      expr at (surface.apply_form (selected_expr taken by function) (selected_expr taken to argument))
  selected_expr taken at (surface.pair_of by left to right) =
      expr at (surface.pair_form (selected_expr taken by left) (selected_expr taken to right))
  selected_expr taken at (form.List items) = expr at (form.List (selected_exprs taken items))
  selected_expr taken at (surface.choice_of dim dim_at by left to right) =
      chosen (taken dim) (selected_expr taken by left) (selected_expr taken to right)
      (expr at (surface.choice_form dim dim_at (selected_expr taken by left) (selected_expr taken to right)))

  pub selected_exprs : (List ℕ → Option Side) → Exprs → Exprs
  selected_exprs taken Nil = Nil
  selected_exprs taken (surface.exprs_of at first rest) = surface.exprs (selected_expr taken at first) (selected_exprs taken rest)

-- a definition, and a program, as they are written
abbrev pub selected_def : (List ℕ → Option Side) → Def → Def
selected_def taken def = record def { body = selected_expr taken def.body.span def.body.form }

abbrev pub selected_program : (List ℕ → Option Side) → Program → Program
selected_program taken program = record {
  defs = map (selected_def taken) program.defs;
  main = selected_expr taken program.main.span program.main.form;
}

-- an expression of the core, from its number, its span and its form
abbrev pub selected_form : (ℕ → Option Side) → ℕ → Span → Form → Core
selected_form taken node at (Literal literal) = core node at (Literal literal)
selected_form taken node at (Name distance) = core node at (Name distance)
selected_form taken node at (Const id) = core node at (Const id)
selected_form taken node at Hole = core node at Hole
selected_form taken node at (fun_of n by body) = core node at (fun_form (selected_form taken n by body))
selected_form taken node at (app_of n by function m to argument) = core node at (app_form (selected_form taken n by function) (selected_form taken m to argument))
selected_form taken node at (let_of n by bound m to body) = core node at (let_form (selected_form taken n by bound) (selected_form taken m to body))
selected_form taken node at (let_rec_of name name_at n by bound m to body) =
    core node at (let_rec_form name name_at (selected_form taken n by bound) (selected_form taken m to body))
selected_form taken node at (choice_of dim n by left m to right) =
    chosen (taken dim) (selected_form taken n by left) (selected_form taken m to right)
    (core node at (choice_form dim (selected_form taken n by left) (selected_form taken m to right)))

abbrev pub selected_core : (ℕ → Option Side) → Core → Core
selected_core taken c = selected_form taken c.node c.span c.form

-- a definition, and a program, of the core
abbrev pub selected_core_def : (ℕ → Option Side) → CoreDef → CoreDef
selected_core_def taken def = record def { body = selected_core taken def.body }

abbrev pub selected_core_program : (ℕ → Option Side) → CoreProgram → CoreProgram
selected_core_program taken program = record {
  defs = map (selected_core_def taken) program.defs;
  main = selected_core taken program.main;
}

-- what a total decision selects from an expression of the core
abbrev pub core_at : List Side → Core → Core
core_at decision c = selected_core (slice_get decision) c

-- An expression in which no choice stands.
abbrev pub IsPlainForm : Form → Type 0
IsPlainForm (Literal literal) = Unit {0}
IsPlainForm (Name distance) = Unit {0}
IsPlainForm (Const id) = Unit {0}
IsPlainForm Hole = Unit {0}
IsPlainForm (fun_of n at body) = IsPlainForm body
IsPlainForm (app_of n at function m by argument) = IsPlainForm function × IsPlainForm argument
IsPlainForm (let_of n at bound m by body) = IsPlainForm bound × IsPlainForm body
IsPlainForm (let_rec_of name name_at n at bound m by body) = IsPlainForm bound × IsPlainForm body
IsPlainForm (choice_of dim n at left m by right) = ⊥
