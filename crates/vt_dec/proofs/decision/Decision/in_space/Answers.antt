use Rattle.vt_dec.proofs.Sets.{rights-map}
use Rattle.vt_dec.proofs.decision.Decision.in_space.Goals as goal

pub returns-in-AtMost : goal.returns-in-AtMost
returns-in-AtMost g c = rw (c.in-AtMost.is, ← c.self.view_is, rights-map) c.has_at_most.ensures
