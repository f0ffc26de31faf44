use Rattle.std.proofs.Common.{◌≡◌, ◌*◌}
use Rattle.vt_store.specs.Fates.{fate_in, AreOrdered}
use Rattle.vt_store.proofs.fates.Fates.at.Given as goal

abbrev pub invariant-loop-part : goal.invariant-loop-part
invariant-loop-part g l = record {
  ordered : AreOrdered (64 * g.row.N) 0 l.part;
  same : fate_in l.decision l.part ≡ fate_in l.decision l.fn.self;
}
