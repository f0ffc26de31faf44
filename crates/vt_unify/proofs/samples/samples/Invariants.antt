use Rattle.std.proofs.Common.{◌*◌}
use Rattle.vt_unify.proofs.WalkCounts.{work}
use Rattle.vt_unify.proofs.WalkSamples.{Sampling}
use Rattle.vt_unify.proofs.samples.samples.Given as goal

abbrev pub invariant-parts : goal.invariant-parts
invariant-parts g l = Sampling l.store l.within l.cell l.parts.items l.found.items

abbrev pub decreases-parts : goal.decreases-parts
decreases-parts g l = work (64 * g.row.N) l.parts.items
