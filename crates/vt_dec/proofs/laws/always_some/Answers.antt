use Rattle.vt_dec.specs.Contexts.{least_of}
use Rattle.vt_dec.proofs.Regions.{Admits-least}
use Rattle.vt_dec.proofs.laws.always_some.Goals as goal

pub returns : goal.returns
returns c region kept = (least_of region.sides, Admits-least region kept)
