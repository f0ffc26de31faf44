use Rattle.std.specs.Prelude.{ℕ, suc, ◌<◌}
use Rattle.vt_syntax.specs.declared.core_expr.Form.{Form, Literal, Name, Const, Hole}
use Rattle.vt_syntax.specs.declared.core_program.CoreProgram.{CoreProgram}
use Rattle.vt_syntax.specs.CoreTrees.{fun_of, app_of, let_of, let_rec_of, choice_of}
use Rattle.vt_syntax.specs.Programs.{whole}

-- each name has its binder, where so many binders stand around the form
abbrev pub IsScoped : ℕ → Form → Type 0
IsScoped binders (Literal literal) = Unit {0}
IsScoped binders (Name distance) = distance < binders
IsScoped binders (Const id) = Unit {0}
IsScoped binders Hole = Unit {0}
IsScoped binders (fun_of n at body) = IsScoped (suc binders) body
IsScoped binders (app_of n at function m by argument) = IsScoped binders function × IsScoped binders argument
IsScoped binders (let_of n at bound m by body) = IsScoped binders bound × IsScoped (suc binders) body
IsScoped binders (let_rec_of name name_at n at bound m by body) = IsScoped (suc binders) bound × IsScoped (suc binders) body
IsScoped binders (choice_of dim n at left m by right) = IsScoped binders left × IsScoped binders right

-- each constant is one of the first so many
abbrev pub HasConstants : ℕ → Form → Type 0
HasConstants count (Literal literal) = Unit {0}
HasConstants count (Name distance) = Unit {0}
HasConstants count (Const id) = id < count
HasConstants count Hole = Unit {0}
HasConstants count (fun_of n at body) = HasConstants count body
HasConstants count (app_of n at function m by argument) = HasConstants count function × HasConstants count argument
HasConstants count (let_of n at bound m by body) = HasConstants count bound × HasConstants count body
HasConstants count (let_rec_of name name_at n at bound m by body) = HasConstants count bound × HasConstants count body
HasConstants count (choice_of dim n at left m by right) = HasConstants count left × HasConstants count right

-- each dimension is one of the first so many
abbrev pub HasDims : ℕ → Form → Type 0
HasDims count (Literal literal) = Unit {0}
HasDims count (Name distance) = Unit {0}
HasDims count (Const id) = Unit {0}
HasDims count Hole = Unit {0}
HasDims count (fun_of n at body) = HasDims count body
HasDims count (app_of n at function m by argument) = HasDims count function × HasDims count argument
HasDims count (let_of n at bound m by body) = HasDims count bound × HasDims count body
HasDims count (let_rec_of name name_at n at bound m by body) = HasDims count bound × HasDims count body
HasDims count (choice_of dim n at left m by right) = (dim < count) × HasDims count left × HasDims count right

-- A program in which each name has its binder, and each constant and each dimension is one of so many.
pub record IsClosed (constants dims : ℕ) (program : CoreProgram) : Type 0 where
  pub names : IsScoped 0 (whole program).form
  pub constants_are : HasConstants constants (whole program).form
  pub dims_are : HasDims dims (whole program).form
