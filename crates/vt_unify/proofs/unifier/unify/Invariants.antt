use Rattle.vt_unify.specs.Pairs.{AreKnown, equations_in}
use Rattle.vt_unify.proofs.Binding.{open_cells}
use Rattle.vt_unify.proofs.Unifying.{IsUnderway}
use Rattle.vt_unify.proofs.unifier.unify.Given as goal

abbrev pub invariant-loop-pairs : goal.invariant-loop-pairs
invariant-loop-pairs g l = record {
  underway : IsUnderway g.row.N l.node l.within l.fn.x l.fn.y l.fn.store l.store l.fn.pattern l.pattern (equations_in l.within l.pairs);
  known : AreKnown l.pairs;
}

abbrev pub decreases-loop-pairs : goal.decreases-loop-pairs
decreases-loop-pairs g l = open_cells g.row.N l.store
