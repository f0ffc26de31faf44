use Rattle.std.specs.Prelude.{ℕ, suc, Bool, true, false, List, take, slice_get, Option, Some, None}
use Rattle.vt_syntax.specs.declared.core_expr.Core.{Core}
use Rattle.vt_syntax.specs.declared.core_expr.Form.{Name}
use Rattle.vt_syntax.specs.declared.core_program.CoreDef.{CoreDef}
use Rattle.vt_syntax.specs.declared.core_program.CoreProgram.{CoreProgram}
use Rattle.vt_syntax.specs.CoreTrees.{core, let_rec_form}
use Rattle.vt_syntax.specs.Programs.{whole}
use Rattle.vt_syntax.specs.Selection.{selected_core_program}
use Rattle.vt_type.specs.declared.plain.Plain.{Plain}
use Rattle.vt_type.specs.Canonical.{IsCanonical}
use Rattle.vt_type.specs.Constants.{Constant}
use Rattle.vt_type.specs.NormalForm.{Map}
use Rattle.vt_rules.specs.Principal.{IsTyped, Principal}

-- what a program without choices means: its canonical principal type, or the error where it has no type
abbrev pub MeansPlainly : List Constant → Core → Option Plain → Type 0
MeansPlainly K program (Some type) = Principal K program type × IsCanonical type
MeansPlainly K program None = IsTyped K program → ⊥

-- What a program means: at each decision what the program that it selects means.
abbrev pub Means : List Constant → CoreProgram → Map
Means K program decision outcome = MeansPlainly K (whole (selected_core_program (slice_get decision) program)) outcome

-- The expression that gives a definition its type: its own, or for a recursive one `let rec x = e in x`.
abbrev pub own_expression : CoreDef → Bool → Core
own_expression def false = def.body
own_expression def true = core def.node def.name_span (let_rec_form def.name def.name_span def.body (core (suc def.node) def.name_span (Name 0)))

abbrev pub ending_at : CoreProgram → ℕ → Option CoreDef → CoreProgram
ending_at program i (Some def) = record { defs = take i program.defs; main = own_expression def def.recursive }
ending_at program i None = program

-- The parts of a program are its definitions in order and then its main expression. The prefix program
-- of a part is the definitions before it, and then its expression.
abbrev pub prefix : CoreProgram → ℕ → CoreProgram
prefix program i = ending_at program i (slice_get program.defs i)

-- what a part of a program means, by its number
abbrev pub PartMeans : List Constant → CoreProgram → ℕ → Map
PartMeans K program i = Means K (prefix program i)
