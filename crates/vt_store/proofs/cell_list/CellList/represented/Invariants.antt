use Rattle.std.proofs.Common.{◌≡◌, map, take, slice_index}
use Rattle.vt_store.proofs.cell_list.CellList.represented.Given as goal

abbrev pub invariant-loop-cell : goal.invariant-loop-cell
invariant-loop-cell l = l.cells.items ≡ map (slice_index l.names) (take l.cell-index l.cell-items)
