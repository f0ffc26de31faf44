use Rattle.std.proofs.Common.{◌≡◌, map, length}
use Rattle.std.specs.List.{range_with_len}
use Rattle.vt_store.specs.Sharing.{followed}
use Rattle.vt_store.proofs.sharing.straight.Given as goal

abbrev pub invariant-loop-cell : goal.invariant-loop-cell
invariant-loop-cell l = l.names.items ≡ map (followed l.diagrams (length l.diagrams)) (range_with_len 0 l.cell)
