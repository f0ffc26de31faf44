use Rattle.vt_store.proofs.Walking.{IsWalked, ahead_of}
use Rattle.vt_store.proofs.narrowing.reached.Given as goal

abbrev pub invariant-loop-cell : goal.invariant-loop-cell
invariant-loop-cell l = IsWalked l.diagrams l.dim l.side l.cells l.fn.root l.found l.ahead.items

abbrev pub decreases-loop-cell : goal.decreases-loop-cell
decreases-loop-cell l = ahead_of l.dim l.side l.diagrams l.found l.ahead.items
