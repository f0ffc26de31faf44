use Rattle.vt_unify.proofs.WalkSamples.{Sampling}
use Rattle.vt_unify.proofs.samples.few_samples.Given as goal

abbrev pub invariant-parts : goal.invariant-parts
invariant-parts g l = Sampling l.store l.within l.cell l.parts.items l.found.items
