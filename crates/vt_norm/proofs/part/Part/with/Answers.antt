use Rattle.std.proofs.Common.{ap, lit<}
use Rattle.vt_norm.proofs.Deciding.{narrows-is, never-none, within-of-open}
use Rattle.vt_norm.proofs.part.Part.with.Goals as goal

pub with-requires : goal.with-requires
with-requires c = (lit< tt, within-of-open c.self.inside.within c.args.dim c.self.invariant (rw (← c.self.view_is) at c.requires))

pub returns-in-Some : goal.returns-in-Some
returns-in-Some c =
    rw (← c.self.view_is)
    (ap (λ r. r.sides)
    (narrows-is c.self.inside.within c.in-Some.within c.args.dim c.args.side c.self.invariant (rw (← c.self.view_is) at c.requires) c.in-Some.ensures.narrowed c.in-Some.ensures.kept c.one_description.ensures))

pub returns-in-None : goal.returns-in-None
returns-in-None c =
    absurd (never-none c.self.inside.within c.args.dim c.args.side c.self.invariant (rw (← c.self.view_is) at c.requires) c.in-None.ensures.narrowed)
