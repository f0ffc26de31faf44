use Rattle.std.proofs.Common.{◌+◌, ◌-◌, length}
use Rattle.vt_store.specs.Stores.{cell_count}
use Rattle.vt_unify.proofs.WalkReaches.{Searching}
use Rattle.vt_unify.proofs.reaches.reaches.Given as goal

abbrev pub invariant-cells : goal.invariant-cells
invariant-cells g l = Searching g.row.N l.store l.within l.fn.outer l.inner l.search.pending.items l.search.seen

abbrev pub decreases-cells : goal.decreases-cells
decreases-cells g l = cell_count l.store + length l.search.pending.items - length l.search.seen
