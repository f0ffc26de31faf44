use Rattle.std.proofs.lemmas.List.{take_more}
use Rattle.vt_store.proofs.Finding.{AreMoved-one}
use Rattle.vt_store.proofs.found.Found.enter_all.Goals as goal

pub loop-cell-preserved : goal.loop-cell-preserved
loop-cell-preserved c =
    let taken = take_more c.args.cells.now c.loop-cell.cell-index c.cell-item.result c.loop-cell-test.true in
    rw (taken, ← c.cell-item.is, c.in_ok-push.ensures.items)
    (AreMoved-one _ _ _ _ c.loop-cell.places.items c.cell-item.result c.in_ok-enter.field-0 c.loop-cell.invariant c.in_ok-enter.ensures)
