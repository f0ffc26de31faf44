use Rattle.vt_dec.proofs.Kept.{Agrees-cut_sets}
use Rattle.vt_dec.proofs.context.Context.admits.Goals as goal

pub returns-then-cuts-clause-admits : goal.returns-then-cuts-clause-admits
returns-then-cuts-clause-admits g c =
    let cut = Agrees-cut_sets _ c.self.inside.decided c.self.inside.least c.args.decision.now c.least.inside.rights c.decision.inside.rights c.self.invariant.parts c.least.view_is c.decision.view_is c.cuts.ensures.sized in
    rw (← c.self.view_is) (
      λ inside. record { agrees = cut.0 (c.cuts.ensures.cut.0 c.if-cuts.true); in_space = c.in_space.ensures.0 inside },
      λ admits. c.in_space.ensures.1 admits.in_space,
    )

pub returns-else-cuts-clause-admits : goal.returns-else-cuts-clause-admits
returns-else-cuts-clause-admits g c =
    let cut = Agrees-cut_sets _ c.self.inside.decided c.self.inside.least c.args.decision.now c.least.inside.rights c.decision.inside.rights c.self.invariant.parts c.least.view_is c.decision.view_is c.cuts.ensures.sized in
    rw (← c.self.view_is) (λ yes. absurd (cc (yes, c.if-cuts.false)), λ admits. c.cuts.ensures.cut.1 (cut.1 admits.agrees))
