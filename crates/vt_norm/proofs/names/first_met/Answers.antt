use Rattle.vt_norm.proofs.Naming.{skip-along}
use Rattle.vt_norm.proofs.names.first_met.Goals as goal

pub loop-first-preserved : goal.loop-first-preserved
loop-first-preserved c =
    skip-along c.args.part.now c.args.cell c.args.met.now c.loop-first.rest.now c.in-Some.others.now c.in-Some.first.now c.loop-first.invariant c.in-Some.ensures.cases.0 c.if-is_met.ensures.1
