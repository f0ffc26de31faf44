use Rattle.vt_unify.proofs.WalkSearches.{Grows-take}
use Rattle.vt_unify.proofs.search.Search.see.Goals as goal

pub loop-cell-preserved : goal.loop-cell-preserved
loop-cell-preserved c = Grows-take c.args.cells.now c.loop-cell.cell-index c.cell-item.result _ _ _ _ c.loop-cell-test.true c.cell-item.is c.loop-cell.invariant c.in_ok-add.ensures
