use Rattle.vt_rules.proofs.ChangeExamples.{wrong_sum-change}
use Rattle.vt_rules.proofs.witnesses.wrong_sum.Goals as goal

pub returns : goal.returns
returns c = wrong_sum-change
