use Rattle.vt_norm.proofs.Equivalences.{choice_distributes}
use Rattle.vt_norm.proofs.laws.equivalences.Goals as goal

pub returns-clause-distributed : goal.returns-clause-distributed
returns-clause-distributed c = choice_distributes
