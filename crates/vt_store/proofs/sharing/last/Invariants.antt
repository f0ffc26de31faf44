use Rattle.std.proofs.Common.{◌≡◌, ◌-◌, ◌<◌, length}
use Rattle.vt_store.specs.Sharing.{followed}
use Rattle.vt_store.proofs.sharing.last.Given as goal

abbrev pub invariant-loop : goal.invariant-loop
invariant-loop l = record {
  within : l.last < length l.diagrams;
  same : followed l.diagrams (length l.diagrams - l.counter) l.last ≡ followed l.diagrams (length l.diagrams) l.fn.cell;
}
