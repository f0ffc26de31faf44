use Rattle.vt_rules.proofs.LeastFailing.{some_first}
use Rattle.vt_rules.proofs.laws.some_failing_is_first.Goals as goal

pub returns : goal.returns
returns c K program last fails none = some_first K program last fails none
