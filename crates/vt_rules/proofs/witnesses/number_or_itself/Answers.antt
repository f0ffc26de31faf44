use Rattle.vt_rules.proofs.MeaningExamples.{number_or_itself-means}
use Rattle.vt_rules.proofs.witnesses.number_or_itself.Goals as goal

pub returns : goal.returns
returns c = number_or_itself-means
