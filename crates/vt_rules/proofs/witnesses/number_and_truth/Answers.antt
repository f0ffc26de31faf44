use Rattle.vt_rules.proofs.ChangeExamples.{number_and_truth-change}
use Rattle.vt_rules.proofs.witnesses.number_and_truth.Goals as goal

pub returns : goal.returns
returns c = number_and_truth-change
