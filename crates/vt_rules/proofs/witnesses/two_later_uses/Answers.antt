use Rattle.vt_rules.proofs.MeaningExamples.{two_later_uses-means}
use Rattle.vt_rules.proofs.witnesses.two_later_uses.Goals as goal

pub returns : goal.returns
returns c = two_later_uses-means
