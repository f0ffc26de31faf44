use Rattle.std.proofs.Common.{◌≡◌, ◌<◌, ℕ, length}
use Rattle.vt_store.specs.Sharing.{diagram_of, IsRepresented}
use Rattle.vt_store.proofs.sharing.represented.Given as goal

abbrev pub invariant-loop-diagram : goal.invariant-loop-diagram
invariant-loop-diagram l = record {
  sized : length l.copies.items ≡ l.diagram-index;
  each : (cell : ℕ) → cell < l.diagram-index → IsRepresented l.names (diagram_of l.diagrams cell) (diagram_of l.copies.items cell);
}
