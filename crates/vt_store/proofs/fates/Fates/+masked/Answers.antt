use Rattle.std.proofs.Common.{◌≡◌, ◌*◌, ◌<◌, Some, None, inl, sym, subst, ◌∙◌}
use Rattle.vt_dec.specs.declared.side.Side.{Side}
use Rattle.vt_dec.specs.Decisions.{IsSideOf}
use Rattle.vt_store.specs.declared.fates.Fates.{Fates, Choice}
use Rattle.vt_store.specs.Fates.{AreJoined, killed, AreBehind}
use Rattle.vt_store.proofs.Writing.{both_ok, from_or_before}
use Rattle.vt_store.proofs.FateShapes.{fates_parts, IsTurned, turned_both, turned_left, turned_right, left_ordered, right_ordered, written_leaf, fates_behind}
use Rattle.vt_store.proofs.fates.Fates.+masked.Goals as goal
use Rattle.vt_store.proofs.fates.Fates.+masked.Goals.{in-None+in_ok-left-in-None+in_ok-right-in-None+in_ok-written-in-None, in-Some-Left+in_ok-left-in-Some-Left+in_ok-copied-in-Some-Left+in_ok-written-in-Some-Left, in-Some-Right+in_ok-right-in-Some-Right+in_ok-copied-in-Some-Right+in_ok-written-in-Some-Right}

pub returns-in-All : goal.returns-in-All
returns-in-All g t c kept long ordered =
    both_ok _ _ _ c.guarded.result (λ fates h write. (h, write (killed c.args.node) long (λ stop le none. written_leaf g.row.N c.args.within.now stop (killed c.args.node) c.args.self.now c.in-All.fate c.killed.result c.in-All.is c.killed.ensures long none)))
    (c.guarded.ensures.ordered long (inl tt) (subst (AreBehind (64 * g.row.N) None) (sym c.in-All.is) (λ from. tt)) (λ from. tt))
    c.guarded.ensures.writes

pub returns-after-side_in : goal.returns-after-side_in
returns-after-side_in g t c kept long ordered =
    let is : c.args.self.now ≡ Choice c.in-Choice.dim c.get-left.result.now c.get-right.result.now = c.in-Choice.is ∙ (λ i. Choice c.in-Choice.dim (sym c.get-left.ensures i) (sym c.get-right.ensures i)) in
    let left = left_ordered g.row.N c.args.within.now c.in-Choice.dim c.in_ok-next-in-Choice.next c.args.from (killed c.args.node) c.args.self.now c.get-left.result.now c.get-right.result.now is c.in_ok-next-in-Choice.ensures kept ordered in
    let right = right_ordered g.row.N c.args.within.now c.in-Choice.dim c.in_ok-next-in-Choice.next c.args.from (killed c.args.node) c.args.self.now c.get-left.result.now c.get-right.result.now is c.in_ok-next-in-Choice.ensures kept ordered in
    let turned : IsTurned g.row.N c.args.within.now c.in-Choice.dim c.in_ok-next-in-Choice.next c.args.from (killed c.args.node) c.args.self.now c.get-left.result.now c.get-right.result.now is c.in_ok-next-in-Choice.ensures kept ordered c.match-side_in.written =
    elim c.match-side_in.branch [
      | in-None+in_ok-left-in-None+in_ok-right-in-None+in_ok-written-in-None w ↦
          turned_both g.row.N c.args.within.now c.in-Choice.dim c.in_ok-next-in-Choice.next c.args.from (killed c.args.node) c.args.self.now c.get-left.result.now c.get-right.result.now is c.in_ok-next-in-Choice.ensures kept ordered w.in_ok-left-in-None.left w.in_ok-right-in-None.right c.match-side_in.written
          w.in-None.ensures (w.in_ok-left-in-None.ensures kept long left) (w.in_ok-right-in-None.ensures kept long right) (subst (λ (made : Fates). AreJoined c.in-Choice.dim w.in_ok-left-in-None.left w.in_ok-right-in-None.right made) (sym w.written-is) w.in_ok-written-in-None.ensures)
      | in-Some-Left+in_ok-left-in-Some-Left+in_ok-copied-in-Some-Left+in_ok-written-in-Some-Left w ↦
          turned_left g.row.N c.args.within.now c.in-Choice.dim c.in_ok-next-in-Choice.next c.args.from (killed c.args.node) c.args.self.now c.get-left.result.now c.get-right.result.now is c.in_ok-next-in-Choice.ensures kept ordered w.in_ok-left-in-Some-Left.left w.in_ok-copied-in-Some-Left.field-0 c.match-side_in.written
          (subst (λ (side : Side). c.in-Choice.dim < 64 * g.row.N → IsSideOf c.args.within.now c.in-Choice.dim (Some side)) w.in-Some-Left.field-0-is w.in-Some-Left.ensures)
          (w.in_ok-left-in-Some-Left.ensures kept long left) w.in_ok-copied-in-Some-Left.ensures (subst (λ (made : Fates). AreJoined c.in-Choice.dim w.in_ok-left-in-Some-Left.left w.in_ok-copied-in-Some-Left.field-0 made) (sym w.written-is) w.in_ok-written-in-Some-Left.ensures)
      | in-Some-Right+in_ok-right-in-Some-Right+in_ok-copied-in-Some-Right+in_ok-written-in-Some-Right w ↦
          turned_right g.row.N c.args.within.now c.in-Choice.dim c.in_ok-next-in-Choice.next c.args.from (killed c.args.node) c.args.self.now c.get-left.result.now c.get-right.result.now is c.in_ok-next-in-Choice.ensures kept ordered w.in_ok-right-in-Some-Right.right w.in_ok-copied-in-Some-Right.field-0 c.match-side_in.written
          (subst (λ (side : Side). c.in-Choice.dim < 64 * g.row.N → IsSideOf c.args.within.now c.in-Choice.dim (Some side)) w.in-Some-Right.field-0-is w.in-Some-Right.ensures)
          (w.in_ok-right-in-Some-Right.ensures kept long right) w.in_ok-copied-in-Some-Right.ensures (subst (λ (made : Fates). AreJoined c.in-Choice.dim w.in_ok-copied-in-Some-Right.field-0 w.in_ok-right-in-Some-Right.right made) (sym w.written-is) w.in_ok-written-in-Some-Right.ensures)
    ]
    in
    let parts = fates_parts (64 * g.row.N) c.args.from c.in-Choice.dim c.args.self.now c.in-Choice.left c.in-Choice.right c.in-Choice.is ordered in
    both_ok _ _ _ c.guarded-in-Choice.result (λ fates h write. (h, write (killed c.args.node) long (λ stop le gap. turned.1 stop gap)))
    (c.guarded-in-Choice.ensures.ordered long (from_or_before c.args.from c.in-Choice.dim parts.0) (fates_behind (64 * g.row.N) c.args.from c.in-Choice.dim c.args.self.now c.in-Choice.left c.in-Choice.right c.in-Choice.is ordered) turned.0)
    c.guarded-in-Choice.ensures.writes
