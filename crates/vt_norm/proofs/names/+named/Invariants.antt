use Rattle.vt_norm.proofs.Naming.{opens}
use Rattle.vt_norm.proofs.names.+named.Given as goal

abbrev pub decreases-named : goal.decreases-named
decreases-named l = opens l.part.now
