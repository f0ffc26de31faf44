use Rattle.std.proofs.Common.{◌*◌}
use Rattle.vt_store.specs.Diagrams.{IsOrdered}
use Rattle.vt_store.proofs.DiagramShapes.{IsAlike}
use Rattle.vt_store.proofs.diagram.Diagram.branch.Given as goal

abbrev pub invariant-loop-part : goal.invariant-loop-part
invariant-loop-part g l = record {
  ordered : IsOrdered (64 * g.row.N) 0 l.part;
  alike : IsAlike l.within l.part l.fn.self;
}
