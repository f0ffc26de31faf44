use Rattle.vt_rules.proofs.FailingExamples.{endless-fails}
use Rattle.vt_rules.proofs.witnesses.endless.Goals as goal

pub returns : goal.returns
returns c = endless-fails
