use Rattle.std.proofs.Common.{◌≡◌, map, length, slice_index}
use Rattle.std.specs.Slice.Iter.{iter_rest}
use Rattle.std.specs.Iterator.Adapters.{zip_first, zip_second}
use Rattle.vt_store.proofs.cell_list.CellList.is_alike.Given as goal

abbrev pub invariant-loop-cell : goal.invariant-loop-cell
invariant-loop-cell l = record {
  sized : length (iter_rest (zip_first l.cell-iterator)) ≡ length (iter_rest (zip_second l.cell-iterator));
  rest : map (slice_index l.names) (iter_rest (zip_first l.cell-iterator)) ≡ map (slice_index l.names) (iter_rest (zip_second l.cell-iterator)) → map (slice_index l.names) l.self ≡ map (slice_index l.names) l.other;
}
