use Rattle.std.proofs.Common.{◌≡◌, ℕ, Bool, true, false, slice_get, Option, Some, None, refl, sym, ap, ◌∙◌}
use Rattle.std.proofs.lemmas.Option.{slice_get-map}
use Rattle.std.proofs.lemmas.List.{take-map}
use Rattle.std.specs.Option.{option_map}
use Rattle.vt_dec.specs.declared.side.Side.{Side}
use Rattle.vt_syntax.specs.declared.core_program.CoreDef.{CoreDef}
use Rattle.vt_syntax.specs.declared.core_program.CoreProgram.{CoreProgram}
use Rattle.vt_syntax.specs.Selection.{selected_core, selected_core_def, selected_core_program}
use Rattle.vt_rules.specs.Meaning.{prefix, own_expression, ending_at}

-- Selection from a prefix program is the prefix of what is selected.

own_selected : (taken : ℕ → Option Side) (def : CoreDef) (recursive : Bool) → selected_core taken (own_expression def recursive) ≡ own_expression (selected_core_def taken def) recursive
own_selected taken def false = refl
own_selected taken def true = refl

pub prefix_selected : (taken : ℕ → Option Side) (program : CoreProgram) (i : ℕ) → selected_core_program taken (prefix program i) ≡ prefix (selected_core_program taken program) i
prefix_selected taken program i = by (slice_get program.defs i) ∙ ap (ending_at (selected_core_program taken program) i) (sym (slice_get-map (selected_core_def taken) program.defs i))
  where
    by : (found : Option CoreDef) → selected_core_program taken (ending_at program i found) ≡ ending_at (selected_core_program taken program) i (option_map (selected_core_def taken) found)
    by None = refl
    by (Some def) = λ j. record { defs = sym (take-map (selected_core_def taken) i program.defs) j; main = own_selected taken def def.recursive j }
