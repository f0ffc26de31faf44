use Rattle.std.proofs.Common.{length}
use Rattle.vt_norm.specs.Names.{FindsAlike}
use Rattle.vt_norm.proofs.names.first_met.Given as goal

abbrev pub invariant-loop-first : goal.invariant-loop-first
invariant-loop-first l = FindsAlike l.part l.cell l.met l.rest

abbrev pub decreases-loop-first : goal.decreases-loop-first
decreases-loop-first l = length l.rest
