use Rattle.vt_rules.proofs.LeastFailing.{least_failing}
use Rattle.vt_rules.proofs.laws.least_failing_exists.Goals as goal

pub returns : goal.returns
returns c K program last decide fails = least_failing K program last decide fails
