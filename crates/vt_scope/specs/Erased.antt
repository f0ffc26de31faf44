use Rattle.std.specs.Prelude.{◌≡◌, ℕ, Bool, List, [], map, Option, unwrap_or, slice_get}
use Rattle.vt_dec.specs.declared.side.Side.{Side}
use Rattle.vt_type.specs.Constants.{Constant, IsTable}
use Rattle.vt_syntax.specs.declared.program.Program.{Program}
use Rattle.vt_syntax.specs.declared.core_expr.Form.{Form, Literal, Name, Const, Hole}
use Rattle.vt_syntax.specs.declared.core_expr.Lit.{Lit}
use Rattle.vt_syntax.specs.declared.core_program.CoreDef.{CoreDef}
use Rattle.vt_syntax.specs.declared.core_program.CoreProgram.{CoreProgram}
use Rattle.vt_syntax.specs.declared.leaf.Leaf.{Leaf}
use Rattle.vt_syntax.specs.CoreTrees.{fun_of, app_of, let_of, let_rec_of, choice_of}
use Rattle.vt_syntax.specs.Selection.{selected_program, selected_core_program}
use Rattle.vt_scope.specs.Faults.{dims_of}
use Rattle.vt_scope.specs.Cores.{IsCoreProgram}

-- A core with its numbers and its spans set aside, and with the name of a dimension in place of its
-- number.

pub data Erased : Type 0 where
  Literally : (literal : Lit) → Erased
  Named : (distance : ℕ) → Erased
  Constantly : (id : ℕ) → Erased
  Hollow : Erased
  Function : (body : Erased) → Erased
  Applied : (function argument : Erased) → Erased
  Bound : (bound body : Erased) → Erased
  Looped : (name : List ℕ) (bound body : Erased) → Erased
  Chosen : (dim : List ℕ) (left right : Erased) → Erased

-- the name of a dimension
abbrev pub dim_name : List (List ℕ) → ℕ → List ℕ
dim_name dims dim = unwrap_or (slice_get dims dim) []

abbrev pub erased : List (List ℕ) → Form → Erased
erased dims (Literal literal) = Literally literal
erased dims (Name distance) = Named distance
erased dims (Const id) = Constantly id
erased dims Hole = Hollow
erased dims (fun_of n at body) = Function (erased dims body)
erased dims (app_of n at function m by argument) = Applied (erased dims function) (erased dims argument)
erased dims (let_of n at bound m by body) = Bound (erased dims bound) (erased dims body)
erased dims (let_rec_of name name_at n at bound m by body) = Looped name (erased dims bound) (erased dims body)
erased dims (choice_of dim n at left m by right) = Chosen (dim_name dims dim) (erased dims left) (erased dims right)

-- a definition, and a program
pub record ErasedDef : Type 0 where
  pub name : List ℕ
  pub recursive : Bool
  pub body : Erased

abbrev pub erased_def : List (List ℕ) → CoreDef → ErasedDef
erased_def dims def = record { name = def.name; recursive = def.recursive; body = erased dims def.body.form }

pub record ErasedProgram : Type 0 where
  pub defs : List ErasedDef
  pub main : Erased

abbrev pub erased_program : List (List ℕ) → CoreProgram → ErasedProgram
erased_program dims program = record { defs = map (erased_def dims) program.defs; main = erased dims program.main.form }

-- A program has at most one core, with its leaves.
abbrev pub HasOneCore : Type 0
HasOneCore =
    (constants : List Constant) (program : Program) (one other : CoreProgram) (leaves others : List Leaf)
    → IsTable constants
    → IsCoreProgram constants (dims_of program) program one leaves
    → IsCoreProgram constants (dims_of program) program other others
    → (one ≡ other) × (leaves ≡ others)

-- A program that has a core has one whatever is selected from it, and it is the same to select from a
-- program and then take its core, and to take its core and then select from that, each core over its own
-- dimensions: they differ in numbers and spans alone.
abbrev pub SelectionCommutes : Type 0
SelectionCommutes =
    (constants : List Constant) (taken : List ℕ → Option Side) (program : Program) (core : CoreProgram) (leaves : List Leaf)
    → IsTable constants
    → IsCoreProgram constants (dims_of program) program core leaves
    → (selected : CoreProgram) × (others : List Leaf)
    × IsCoreProgram constants (dims_of (selected_program taken program)) (selected_program taken program) selected others
    × (erased_program (dims_of program) (selected_core_program (λ dim. taken (dim_name (dims_of program) dim)) core)
    ≡ erased_program (dims_of (selected_program taken program)) selected)
