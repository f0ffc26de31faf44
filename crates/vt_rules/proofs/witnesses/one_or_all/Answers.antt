use Rattle.vt_rules.proofs.MeaningExamples.{one_or_all-means}
use Rattle.vt_rules.proofs.witnesses.one_or_all.Goals as goal

pub returns : goal.returns
returns c = one_or_all-means
