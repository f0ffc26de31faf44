use Rattle.vt_rules.proofs.Replacing.{curing-marked}
use Rattle.vt_rules.proofs.laws.curing_are_marked.Goals as goal

pub returns : goal.returns
returns c K program leaf has cures = curing-marked K program leaf has cures
