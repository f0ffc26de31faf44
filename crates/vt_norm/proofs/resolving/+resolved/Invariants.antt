use Rattle.vt_norm.proofs.Naming.{opens}
use Rattle.vt_norm.proofs.resolving.+resolved.Given as goal

abbrev pub decreases-resolved : goal.decreases-resolved
decreases-resolved l = opens l.part.now
