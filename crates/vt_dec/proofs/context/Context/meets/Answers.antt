use Rattle.std.proofs.Common.{◌≡◌}
use Rattle.vt_dec.specs.Contexts.{least_of}
use Rattle.vt_dec.proofs.Regions.{Meet-joined}
use Rattle.vt_dec.proofs.context.Context.meets.Goals as goal

pub returns-then-admits-clause-meets : goal.returns-then-admits-clause-meets
returns-then-admits-clause-meets g c =
    let one : least_of c.args.self.now.sides ≡ c.self.inside.least = rw (← c.self.view_is) c.self.invariant.parts.only in
    let other : least_of c.args.other.now.sides ≡ c.other.inside.least = rw (← c.other.view_is) c.other.invariant.parts.only in
    let meet = Meet-joined c.args.self.now c.args.other.now c.self.inside.least c.other.inside.least c.join-joined.result one other c.join-joined.ensures in
    (λ yes. meet.0 (c.admits.ensures.admits.0 c.if-admits.true, c.admits-then-admits.ensures.admits.0 yes), λ met. c.admits-then-admits.ensures.admits.1 (meet.1 met).1)

pub returns-else-admits-clause-meets : goal.returns-else-admits-clause-meets
returns-else-admits-clause-meets g c =
    let one : least_of c.args.self.now.sides ≡ c.self.inside.least = rw (← c.self.view_is) c.self.invariant.parts.only in
    let other : least_of c.args.other.now.sides ≡ c.other.inside.least = rw (← c.other.view_is) c.other.invariant.parts.only in
    let meet = Meet-joined c.args.self.now c.args.other.now c.self.inside.least c.other.inside.least c.join-joined.result one other c.join-joined.ensures in
    (λ yes. absurd (cc (yes, c.if-admits.false)), λ met. c.admits.ensures.admits.1 (meet.1 met).0)
