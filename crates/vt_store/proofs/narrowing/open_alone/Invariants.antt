use Rattle.vt_store.specs.Narrowing.{AreOpenAlone}
use Rattle.vt_store.proofs.narrowing.open_alone.Given as goal

abbrev pub invariant-loop-cell : goal.invariant-loop-cell
invariant-loop-cell l = AreOpenAlone l.diagrams l.ones l.others l.found
