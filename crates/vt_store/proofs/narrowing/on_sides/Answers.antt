use Rattle.std.proofs.Common.{◌≡◌, ◌∙◌, length, arith}
use Rattle.vt_store.specs.Narrowing.{IsCut}
use Rattle.vt_store.proofs.Representing.{copies-more}
use Rattle.vt_store.proofs.narrowing.on_sides.Goals as goal

pub loop-cell-preserved : goal.loop-cell-preserved
loop-cell-preserved c =
    let made =
    copies-more (IsCut c.args.dim c.args.sides.now.left c.args.sides.now.right) c.args.diagrams.now c.loop-cell.copies.items c.push.new.self.items c.loop-cell.cell c.index-diagrams-cell.result c.in_ok-on_sides.field-0 c.loop-cell-test.true
    c.index-diagrams-cell.is c.in_ok-push.ensures.items c.loop-cell.invariant.sized c.loop-cell.invariant.each
    (record { on_left = c.contains-on_left.result; on_right = c.contains-on_right.result; is_left = c.contains-on_left.ensures; is_right = c.contains-on_right.ensures; is = c.in_ok-on_sides.ensures })
    in
    record { sized = made.0; each = made.1 }

pub returns : goal.returns
returns c =
    let all : c.loop-cell.cell ≡ length c.args.diagrams.now = omega (arith, c.loop-cell-test.false, c.loop-cell.auto.cell-end) in
    record { sized = c.loop-cell.invariant.sized ∙ all; each = λ cell within. c.loop-cell.invariant.each cell (omega (arith, all)) }
