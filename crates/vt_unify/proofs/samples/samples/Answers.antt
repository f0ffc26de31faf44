use Rattle.vt_unify.proofs.WalkSamples.{Sampling-turn, work-turn}
use Rattle.vt_unify.proofs.samples.samples.Goals as goal

pub parts-smaller : goal.parts-smaller
parts-smaller g c = work-turn g.row.N _ _ c.args.cell c.space-space.ensures.sized _ _ _ _ c.in-Some.ensures.items c.parts.invariant _ _ c.in_ok-turn.ensures

pub parts-preserved : goal.parts-preserved
parts-preserved g c = Sampling-turn g.row.N _ _ c.args.cell c.space-space.ensures.sized _ _ _ _ c.in-Some.ensures.items c.parts.invariant _ _ c.in_ok-turn.ensures
