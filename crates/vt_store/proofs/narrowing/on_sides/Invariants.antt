use Rattle.std.proofs.Common.{◌≡◌, ◌<◌, ℕ, length}
use Rattle.vt_store.specs.Sharing.{diagram_of}
use Rattle.vt_store.specs.Narrowing.{IsCut}
use Rattle.vt_store.proofs.narrowing.on_sides.Given as goal

abbrev pub invariant-loop-cell : goal.invariant-loop-cell
invariant-loop-cell l = record {
  sized : length l.copies.items ≡ l.cell;
  each : (cell : ℕ) → cell < l.cell → IsCut l.dim l.fn.sides.left l.fn.sides.right cell (diagram_of l.diagrams cell) (diagram_of l.copies.items cell);
}
