use Rattle.vt_rules.proofs.LeastFailing.{failing-untyped}
use Rattle.vt_rules.proofs.laws.failing_are_untyped.Goals as goal

pub returns : goal.returns
returns c K table program k f typed = failing-untyped K program table k f typed
