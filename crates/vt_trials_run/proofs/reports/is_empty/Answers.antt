use Rattle.std.proofs.Common.{sym, ap, ◌∙◌, option_copied}
use Rattle.vt_trials_run.proofs.ReportLemmas.{empty_of}
use Rattle.vt_trials_run.proofs.reports.is_empty.Goals as goal

pub returns-in-None : goal.returns-in-None
returns-in-None c = λ yes. empty_of c.args.names.now (sym c.name.ensures ∙ ap option_copied c.in-None.is)
