use Rattle.std.proofs.Common.{ℕ, zero, ◌*◌, ◌<◌, length, arith}
use Rattle.vt_type.specs.Constants.{core_constants}
use Rattle.vt_syntax.specs.declared.core_expr.Form.{Form, Literal, Name, Const, Hole}
use Rattle.vt_syntax.specs.declared.core_program.CoreProgram.{CoreProgram}
use Rattle.vt_syntax.specs.CoreTrees.{fun_of, app_of, let_of, let_rec_of, choice_of}
use Rattle.vt_syntax.specs.Programs.{whole}
use Rattle.vt_syntax.specs.Scoping.{HasDims, IsClosed}
use Rattle.vt_syntax.specs.Selection.{IsPlainForm}
use Rattle.vt_file.specs.Files.{IsTypable}

-- A program without dimensions has no choices, and may be looked at over any number of them.

plain : (form : Form) → HasDims 0 form → IsPlainForm form
plain (Literal literal) h = tt
plain (Name distance) h = tt
plain (Const id) h = tt
plain Hole h = tt
plain (fun_of n at body) h = plain body h
plain (app_of n at function m by argument) h = (plain function h.0, plain argument h.1)
plain (let_of n at bound m by body) h = (plain bound h.0, plain body h.1)
plain (let_rec_of name name_at n at bound m by body) h = (plain bound h.0, plain body h.1)
plain (choice_of dim n at left m by right) h = let less = h.0 in absurd (omega arith)

wider : (count : ℕ) (form : Form) → HasDims 0 form → HasDims count form
wider count (Literal literal) h = tt
wider count (Name distance) h = tt
wider count (Const id) h = tt
wider count Hole h = tt
wider count (fun_of n at body) h = wider count body h
wider count (app_of n at function m by argument) h = (wider count function h.0, wider count argument h.1)
wider count (let_of n at bound m by body) h = (wider count bound h.0, wider count body h.1)
wider count (let_rec_of name name_at n at bound m by body) h = (wider count bound h.0, wider count body h.1)
wider count (choice_of dim n at left m by right) h = let less = h.0 in absurd (omega arith)

pub plain_without : (core : CoreProgram) → IsTypable core 0 → IsPlainForm (whole core).form
plain_without core typable = plain (whole core).form typable.closed.dims_are

pub closed_without : (core : CoreProgram) (dims : ℕ) → IsTypable core 0 → IsClosed (length core_constants) dims core
closed_without core dims typable = record {
  names = typable.closed.names;
  constants_are = typable.closed.constants_are;
  dims_are = wider dims (whole core).form typable.closed.dims_are;
}
