use Rattle.std.proofs.Common.{ap, ◌∙◌, map, false, true}
use Rattle.std.proofs.lemmas.List.{map-set}
use Rattle.vt_dec.specs.Sides.{side_of}
use Rattle.vt_dec.proofs.decision.Decision.set.Goals as goal

pub returns-in-Left : goal.returns-in-Left
returns-in-Left g c =
    rw (c.in-Left.is, ← c.self.view_is) (ap (map side_of) c.remove.ensures ∙ map-set side_of c.self.inside.rights c.args.dim false)

pub returns-in-Right : goal.returns-in-Right
returns-in-Right g c =
    rw (c.in-Right.is, ← c.self.view_is) (ap (map side_of) c.insert.ensures.inserted ∙ map-set side_of c.self.inside.rights c.args.dim true)
