use Rattle.std.specs.Prelude.{◌≡◌, ◌≢◌, ℕ, suc, ◌<◌, nat_eq, if◌then◌else◌, List, [], ◌∷◌, map, Option, Some, None}
use Rattle.std.specs.Option.{option_map}
use Rattle.vt_dec.specs.declared.side.Side.{Side}
use Rattle.vt_dec.specs.declared.side.Side.TheVariants.{Left, Right}
use Rattle.vt_dec.specs.Decisions.{Takes}
use Rattle.vt_lex.specs.declared.span.Span.{Span}
use Rattle.vt_syntax.specs.declared.core_expr.Core.{Core}
use Rattle.vt_syntax.specs.declared.core_expr.Form.{Form, Literal, Name, Const, Hole}
use Rattle.vt_syntax.specs.declared.core_program.CoreDef.{CoreDef}
use Rattle.vt_syntax.specs.declared.core_program.CoreProgram.{CoreProgram}
use Rattle.vt_syntax.specs.declared.leaf.Leaf.{Leaf}
use Rattle.vt_syntax.specs.CoreTrees.{core, fun_of, app_of, let_of, let_rec_of, choice_of, fun_form, app_form, let_form, let_rec_form, choice_form}

-- A program in which each leaf is a choice between itself and a hole. Leaf i is the choice of dimension i;
-- a decision that takes Right in that dimension alone replaces that leaf alone.

-- the place of the first leaf of a number
abbrev pub leaf_index : List Leaf → ℕ → Option ℕ
leaf_index [] node = None
leaf_index (one ∷ leaves) node = if nat_eq one.node node then Some 0 else option_map suc (leaf_index leaves node)

-- an expression, or the choice between it and a hole of the same number and span
abbrev pub or_hole : Option ℕ → Core → Core
or_hole None c = c
or_hole (Some dim) c = core c.node c.span (choice_form dim c (core c.node c.span Hole))

-- An expression of which the leaves are varied, from its number, its span and its form. All else stays.
abbrev pub varied : List Leaf → ℕ → Span → Form → Core
varied leaves node at (Literal literal) = or_hole (leaf_index leaves node) (core node at (Literal literal))
varied leaves node at (Name distance) = or_hole (leaf_index leaves node) (core node at (Name distance))
varied leaves node at (Const id) = or_hole (leaf_index leaves node) (core node at (Const id))
varied leaves node at Hole = core node at Hole
varied leaves node at (fun_of n by body) = core node at (fun_form (varied leaves n by body))
varied leaves node at (app_of n by function m to argument) =
    core node at (app_form (varied leaves n by function) (varied leaves m to argument))
varied leaves node at (let_of n by bound m to body) =
    core node at (let_form (varied leaves n by bound) (varied leaves m to body))
varied leaves node at (let_rec_of name name_at n by bound m to body) =
    core node at (let_rec_form name name_at (varied leaves n by bound) (varied leaves m to body))
varied leaves node at (choice_of dim n by left m to right) =
    core node at (choice_form dim (varied leaves n by left) (varied leaves m to right))

abbrev pub core_varied : List Leaf → Core → Core
core_varied leaves c = varied leaves c.node c.span c.form

-- a definition, and a program
abbrev pub def_varied : List Leaf → CoreDef → CoreDef
def_varied leaves def = record def { body = core_varied leaves def.body }

abbrev pub program_varied : List Leaf → CoreProgram → CoreProgram
program_varied leaves program = record {
  defs = map (def_varied leaves) program.defs;
  main = core_varied leaves program.main;
}

-- the decision takes Left in each of the first n dimensions
abbrev pub TakesNone : ℕ → List Side → Type 0
TakesNone n decision = (dim : ℕ) → dim < n → Takes decision dim Left

-- of the first n dimensions the decision takes Right in this one alone
pub record TakesOne (n one : ℕ) (decision : List Side) : Type 0 where
  pub within : one < n
  pub right : Takes decision one Right
  pub left : (dim : ℕ) → dim < n → dim ≢ one → Takes decision dim Left
