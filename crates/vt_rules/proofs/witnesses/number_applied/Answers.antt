use Rattle.vt_rules.proofs.FailingExamples.{number_applied-fails}
use Rattle.vt_rules.proofs.witnesses.number_applied.Goals as goal

pub returns : goal.returns
returns c = number_applied-fails
