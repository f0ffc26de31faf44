use Rattle.std.proofs.Common.{length}
use Rattle.vt_store.proofs.Pairing.{ArePairedBelow}
use Rattle.vt_store.proofs.narrowing.paired.Given as goal

abbrev pub invariant-loop-place : goal.invariant-loop-place
invariant-loop-place l = ArePairedBelow (length l.diagrams) l.fn.ones l.fn.others l.place l.names.items
