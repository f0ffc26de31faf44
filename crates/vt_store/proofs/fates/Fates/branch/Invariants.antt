use Rattle.std.proofs.Common.{◌*◌}
use Rattle.vt_store.specs.Fates.{AreOrdered}
use Rattle.vt_store.proofs.FateShapes.{IsAlike}
use Rattle.vt_store.proofs.fates.Fates.branch.Given as goal

abbrev pub invariant-loop-part : goal.invariant-loop-part
invariant-loop-part g l = record {
  ordered : AreOrdered (64 * g.row.N) 0 l.part;
  alike : IsAlike l.within l.part l.fn.self;
}
