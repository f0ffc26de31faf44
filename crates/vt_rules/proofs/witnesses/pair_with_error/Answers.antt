use Rattle.vt_rules.proofs.ChangeExamples.{pair_with_error-changes}
use Rattle.vt_rules.proofs.witnesses.pair_with_error.Goals as goal

pub returns : goal.returns
returns c = pair_with_error-changes
