use Rattle.vt_rules.proofs.ChangeExamples.{wrong_use-change}
use Rattle.vt_rules.proofs.witnesses.wrong_use.Goals as goal

pub returns : goal.returns
returns c = wrong_use-change
