use Rattle.std.proofs.Common.{◌≡◌, ◌*◌}
use Rattle.vt_store.specs.Diagrams.{end_in, IsOrdered}
use Rattle.vt_store.proofs.diagram.Diagram.at.Given as goal

abbrev pub invariant-loop-part : goal.invariant-loop-part
invariant-loop-part g l = record {
  ordered : IsOrdered (64 * g.row.N) 0 l.part;
  same : end_in l.decision l.part ≡ end_in l.decision l.fn.self;
}
