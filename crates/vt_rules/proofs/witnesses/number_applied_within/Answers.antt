use Rattle.vt_rules.proofs.FailingExamples.{number_applied_within-fails}
use Rattle.vt_rules.proofs.witnesses.number_applied_within.Goals as goal

pub returns : goal.returns
returns c = number_applied_within-fails
