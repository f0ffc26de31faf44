use Rattle.std.proofs.Common.{rules, string_bytes}
use Rattle.vt_report.proofs.Telling.{begun, one_line_more}
use Rattle.vt_report.proofs.report.change_lines.Goals as goal

pub loop-line-init : goal.loop-line-init
loop-line-init c = begun c.args.text.now c.args.leaves.now c.args.lines.now (string_bytes c.in_ok-out.out) c.in_ok-out.ensures

pub loop-line-preserved : goal.loop-line-preserved
loop-line-preserved c =
    one_line_more c.args.text.now c.args.leaves.now c.args.lines.now c.loop-line.line-index _ (string_bytes c.in_ok-told.told) _ c.line-item.result c.loop-line.invariant
    (search rules) c.line-item.is c.in_ok-told.ensures (search rules)
