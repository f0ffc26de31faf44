use Rattle.std.proofs.Common.{subst, slice_get, ap, ◌∙◌}
use Rattle.std.proofs.lemmas.Result.{IfOk-weaker}
use Rattle.vt_syntax.specs.Selection.{selected_core_program}
use Rattle.vt_syntax.proofs.SelectingVaried.{program-none, program-one}
use Rattle.vt_change.specs.Numbering.{IsNumbering}
use Rattle.vt_change.proofs.varying.vary_leaves.Goals as goal

pub returns : goal.returns
returns c =
    let are = subst (λ ls. IsNumbering ls c.in_ok-numbers.numbers) c.as_slice.ensures c.in_ok-numbers.ensures in
    let varied = c.program-varied.ensures c.args.leaves.now are in
    record {
      varied = varied;
      none = IfOk-weaker c.program-varied.result _ _ (λ p is plain decision takes.
          ap (selected_core_program (slice_get decision)) is ∙ program-none c.args.leaves.now decision c.args.core.now plain takes) varied;
      one = IfOk-weaker c.program-varied.result _ _ (λ p is plain decision number leaf found takes.
          ap (selected_core_program (slice_get decision)) is ∙ program-one c.args.leaves.now decision c.args.core.now number leaf plain c.requires.different found takes) varied;
    }
