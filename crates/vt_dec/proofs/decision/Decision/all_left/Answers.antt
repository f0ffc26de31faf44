use Rattle.std.proofs.Common.{◌*◌, ap, ◌∙◌, map, false}
use Rattle.vt_dec.specs.Sides.{side_of}
use Rattle.vt_dec.proofs.Sets.{map-replicate}
use Rattle.vt_dec.proofs.decision.Decision.all_left.Goals as goal

pub returns : goal.returns
returns g c = ap (map side_of) c.empty.ensures ∙ map-replicate side_of (64 * g.row.N) false
