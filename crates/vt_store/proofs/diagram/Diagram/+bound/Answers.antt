use Rattle.std.proofs.Common.{◌≡◌, ◌*◌, ◌<◌, Some, inl, sym, subst, ◌∙◌}
use Rattle.vt_dec.specs.declared.side.Side.{Side}
use Rattle.vt_dec.specs.Decisions.{IsSideOf}
use Rattle.vt_store.specs.declared.diagram.Diagram.{Diagram, Choice}
use Rattle.vt_store.specs.Ends.{CellEnd, Same}
use Rattle.vt_store.specs.Diagrams.{IsJoined, HasCells, end_in}
use Rattle.vt_store.proofs.Writing.{both_ok, from_or_before, write_all}
use Rattle.vt_store.proofs.DiagramShapes.{diagram_parts, IsTurned, turned_both, turned_left, turned_right, left_ordered, right_ordered, diagram_behind, IsLeaf-behind, cells_parts, cells_made}
use Rattle.vt_store.proofs.diagram.Diagram.+bound.Goals as goal
use Rattle.vt_store.proofs.diagram.Diagram.+bound.Goals.{in-None+in_ok-left-in-None+in_ok-right-in-None+in_ok-written-in-None, in-Some-Left+in_ok-left-in-Some-Left+in_ok-copied-in-Some-Left+in_ok-written-in-Some-Left, in-Some-Right+in_ok-right-in-Some-Right+in_ok-copied-in-Some-Right+in_ok-written-in-Some-Right}

pub returns-in_default : goal.returns-in_default
returns-in_default g t c = record {
  cells = λ count to_within cells. c.guarded-in_default.ensures.cells count cells to_within;
  writes = λ kept long ordered.
      both_ok _ _ _ c.guarded-in_default.result
      (λ diagram h write. (h, write (λ (end : CellEnd). Same c.args.to) long (λ stop le none. write_all g.row.N c.args.within.now stop (λ (end : CellEnd). Same c.args.to) long none (λ d. end_in d c.args.self.now))))
      (c.guarded-in_default.ensures.ordered long (inl tt) (IsLeaf-behind (64 * g.row.N) c.args.self.now c.in_default.not-Choice) (λ from. tt))
      c.guarded-in_default.ensures.writes;
}

pub returns-after-side_in-clause-cells : goal.returns-after-side_in-clause-cells
returns-after-side_in-clause-cells g t c count to_within cells =
    let parts = cells_parts count c.in-Choice.dim c.args.self.now c.in-Choice.left c.in-Choice.right c.in-Choice.is cells in
    let left : HasCells count c.get-left.result.now = rw c.get-left.ensures parts.0 in
    let right : HasCells count c.get-right.result.now = rw c.get-right.ensures parts.1 in
    let written : HasCells count c.match-side_in.written =
    elim c.match-side_in.branch [
      | in-None+in_ok-left-in-None+in_ok-right-in-None+in_ok-written-in-None w ↦
          cells_made count c.in-Choice.dim c.match-side_in.written _ _ (subst (λ (made : Diagram). IsJoined c.in-Choice.dim w.in_ok-left-in-None.left w.in_ok-right-in-None.right made) (sym w.written-is) w.in_ok-written-in-None.ensures) (w.in_ok-left-in-None.ensures.cells count to_within left) (w.in_ok-right-in-None.ensures.cells count to_within right)
      | in-Some-Left+in_ok-left-in-Some-Left+in_ok-copied-in-Some-Left+in_ok-written-in-Some-Left w ↦
          cells_made count c.in-Choice.dim c.match-side_in.written _ _ (subst (λ (made : Diagram). IsJoined c.in-Choice.dim w.in_ok-left-in-Some-Left.left w.in_ok-copied-in-Some-Left.field-0 made) (sym w.written-is) w.in_ok-written-in-Some-Left.ensures) (w.in_ok-left-in-Some-Left.ensures.cells count to_within left) (rw w.in_ok-copied-in-Some-Left.ensures right)
      | in-Some-Right+in_ok-right-in-Some-Right+in_ok-copied-in-Some-Right+in_ok-written-in-Some-Right w ↦
          cells_made count c.in-Choice.dim c.match-side_in.written _ _ (subst (λ (made : Diagram). IsJoined c.in-Choice.dim w.in_ok-copied-in-Some-Right.field-0 w.in_ok-right-in-Some-Right.right made) (sym w.written-is) w.in_ok-written-in-Some-Right.ensures) (rw w.in_ok-copied-in-Some-Right.ensures left) (w.in_ok-right-in-Some-Right.ensures.cells count to_within right)
    ]
    in
    c.guarded.ensures.cells count cells written

pub returns-after-side_in-clause-writes : goal.returns-after-side_in-clause-writes
returns-after-side_in-clause-writes g t c kept long ordered =
    let is : c.args.self.now ≡ Choice c.in-Choice.dim c.get-left.result.now c.get-right.result.now = c.in-Choice.is ∙ (λ i. Choice c.in-Choice.dim (sym c.get-left.ensures i) (sym c.get-right.ensures i)) in
    let left = left_ordered g.row.N c.args.within.now c.in-Choice.dim c.in_ok-next-in-Choice.next c.args.from (λ (end : CellEnd). Same c.args.to) c.args.self.now c.get-left.result.now c.get-right.result.now is c.in_ok-next-in-Choice.ensures kept ordered in
    let right = right_ordered g.row.N c.args.within.now c.in-Choice.dim c.in_ok-next-in-Choice.next c.args.from (λ (end : CellEnd). Same c.args.to) c.args.self.now c.get-left.result.now c.get-right.result.now is c.in_ok-next-in-Choice.ensures kept ordered in
    let turned : IsTurned g.row.N c.args.within.now c.in-Choice.dim c.in_ok-next-in-Choice.next c.args.from (λ (end : CellEnd). Same c.args.to) c.args.self.now c.get-left.result.now c.get-right.result.now is c.in_ok-next-in-Choice.ensures kept ordered c.match-side_in.written =
    elim c.match-side_in.branch [
      | in-None+in_ok-left-in-None+in_ok-right-in-None+in_ok-written-in-None w ↦
          turned_both g.row.N c.args.within.now c.in-Choice.dim c.in_ok-next-in-Choice.next c.args.from (λ (end : CellEnd). Same c.args.to) c.args.self.now c.get-left.result.now c.get-right.result.now is c.in_ok-next-in-Choice.ensures kept ordered w.in_ok-left-in-None.left w.in_ok-right-in-None.right c.match-side_in.written
          w.in-None.ensures (w.in_ok-left-in-None.ensures.writes kept long left) (w.in_ok-right-in-None.ensures.writes kept long right) (subst (λ (made : Diagram). IsJoined c.in-Choice.dim w.in_ok-left-in-None.left w.in_ok-right-in-None.right made) (sym w.written-is) w.in_ok-written-in-None.ensures)
      | in-Some-Left+in_ok-left-in-Some-Left+in_ok-copied-in-Some-Left+in_ok-written-in-Some-Left w ↦
          turned_left g.row.N c.args.within.now c.in-Choice.dim c.in_ok-next-in-Choice.next c.args.from (λ (end : CellEnd). Same c.args.to) c.args.self.now c.get-left.result.now c.get-right.result.now is c.in_ok-next-in-Choice.ensures kept ordered w.in_ok-left-in-Some-Left.left w.in_ok-copied-in-Some-Left.field-0 c.match-side_in.written
          (subst (λ (side : Side). c.in-Choice.dim < 64 * g.row.N → IsSideOf c.args.within.now c.in-Choice.dim (Some side)) w.in-Some-Left.field-0-is w.in-Some-Left.ensures)
          (w.in_ok-left-in-Some-Left.ensures.writes kept long left) w.in_ok-copied-in-Some-Left.ensures (subst (λ (made : Diagram). IsJoined c.in-Choice.dim w.in_ok-left-in-Some-Left.left w.in_ok-copied-in-Some-Left.field-0 made) (sym w.written-is) w.in_ok-written-in-Some-Left.ensures)
      | in-Some-Right+in_ok-right-in-Some-Right+in_ok-copied-in-Some-Right+in_ok-written-in-Some-Right w ↦
          turned_right g.row.N c.args.within.now c.in-Choice.dim c.in_ok-next-in-Choice.next c.args.from (λ (end : CellEnd). Same c.args.to) c.args.self.now c.get-left.result.now c.get-right.result.now is c.in_ok-next-in-Choice.ensures kept ordered w.in_ok-right-in-Some-Right.right w.in_ok-copied-in-Some-Right.field-0 c.match-side_in.written
          (subst (λ (side : Side). c.in-Choice.dim < 64 * g.row.N → IsSideOf c.args.within.now c.in-Choice.dim (Some side)) w.in-Some-Right.field-0-is w.in-Some-Right.ensures)
          (w.in_ok-right-in-Some-Right.ensures.writes kept long right) w.in_ok-copied-in-Some-Right.ensures (subst (λ (made : Diagram). IsJoined c.in-Choice.dim w.in_ok-copied-in-Some-Right.field-0 w.in_ok-right-in-Some-Right.right made) (sym w.written-is) w.in_ok-written-in-Some-Right.ensures)
    ]
    in
    let parts = diagram_parts (64 * g.row.N) c.args.from c.in-Choice.dim c.args.self.now c.in-Choice.left c.in-Choice.right c.in-Choice.is ordered in
    both_ok _ _ _ c.guarded.result (λ diagram h write. (h, write (λ (end : CellEnd). Same c.args.to) long (λ stop le gap. turned.1 stop gap)))
    (c.guarded.ensures.ordered long (from_or_before c.args.from c.in-Choice.dim parts.0) (diagram_behind (64 * g.row.N) c.args.from c.in-Choice.dim c.args.self.now c.in-Choice.left c.in-Choice.right c.in-Choice.is ordered) turned.0)
    c.guarded.ensures.writes
