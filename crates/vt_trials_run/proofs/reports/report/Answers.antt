use Rattle.std.proofs.Common.{◌*◌, length, sym, subst, ap, ◌∙◌}
use Rattle.std.specs.List.{All}
use Rattle.vt_syntax.specs.Scoping.{IsClosed}
use Rattle.vt_syntax.specs.Programs.{whole}
use Rattle.vt_file.specs.Files.{IsTypable}
use Rattle.vt_report.specs.Reports.{IsChangeAmong}
use Rattle.vt_file.proofs.PlainFiles.{plain_without, closed_without}
use Rattle.vt_trials_run.proofs.ReportLemmas.{among}
use Rattle.vt_trials_run.proofs.reports.report.Goals as goal

pub changes-lines-requires-clause-closed : goal.changes-lines-requires-clause-closed
changes-lines-requires-clause-closed c =
    let source = c.in-Ok.source in
    let none : IsTypable source.resolved.core 0 = subst (λ dims. IsTypable source.resolved.core (length dims)) (c.is_empty.ensures c.if-not-is_empty.false) c.in-Ok.ensures.typable in
    subst (λ K. IsClosed (length K) (64 * 32) source.resolved.core) (sym c.in-Ok.ensures.constants) (closed_without source.resolved.core (64 * 32) none)

pub changes-lines-requires-clause-plain : goal.changes-lines-requires-clause-plain
changes-lines-requires-clause-plain c =
    let source = c.in-Ok.source in
    plain_without source.resolved.core (subst (λ dims. IsTypable source.resolved.core (length dims)) (c.is_empty.ensures c.if-not-is_empty.false) c.in-Ok.ensures.typable)

pub change_lines-said-requires-clause-lines : goal.change_lines-said-requires-clause-lines
change_lines-said-requires-clause-lines c =
    let source = c.in-Ok.source in
    subst (All (IsChangeAmong (length source.resolved.leaves))) (sym c.deref.ensures.value)
    (among source.constants (whole source.resolved.core) source.resolved.leaves c.in-Ok-lines.lines.items c.in-Ok-lines.ensures.changes c.in-Ok-lines.ensures.formed)
