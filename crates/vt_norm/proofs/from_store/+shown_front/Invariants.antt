use Rattle.vt_norm.proofs.Naming.{opens}
use Rattle.vt_norm.proofs.from_store.+shown_front.Given as goal

abbrev pub decreases-shown_front : goal.decreases-shown_front
decreases-shown_front l = opens l.part.now
