use Rattle.std.proofs.Common.{ap, ◌∙◌, map}
use Rattle.vt_dec.specs.Sides.{side_of}
use Rattle.vt_dec.proofs.Sets.{map-zip2}
use Rattle.vt_dec.proofs.decision.Decision.join.Goals as goal

pub returns : goal.returns
returns g c = rw (← c.self.view_is, ← c.other.view_is) (ap (map side_of) c.union.ensures ∙ map-zip2 c.self.inside.rights c.other.inside.rights)
