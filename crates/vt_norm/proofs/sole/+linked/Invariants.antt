use Rattle.vt_norm.proofs.Naming.{opens}
use Rattle.vt_norm.proofs.sole.+linked.Given as goal

abbrev pub decreases-linked : goal.decreases-linked
decreases-linked l = opens l.part.now
