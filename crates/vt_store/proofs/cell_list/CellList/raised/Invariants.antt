use Rattle.std.proofs.Common.{◌≡◌, ◌+◌, map, take}
use Rattle.vt_store.proofs.cell_list.CellList.raised.Given as goal

abbrev pub invariant-loop-cell : goal.invariant-loop-cell
invariant-loop-cell l = l.cells.items ≡ map (λ cell. cell + l.by) (take l.cell-index l.cell-items)
