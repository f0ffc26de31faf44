use Rattle.std.proofs.Common.{◌<◌}
use Rattle.std.specs.List.{All}
use Rattle.vt_store.specs.Stores.{cell_count}
use Rattle.vt_norm.specs.Soles.{AreSoles}
use Rattle.vt_norm.proofs.sole.sole.Given as goal

abbrev pub invariant-turns : goal.invariant-turns
invariant-turns l = record {
  known : AreSoles l.store l.part l.known;
  cells : All (λ own. own.cell < cell_count l.store) l.pending.items;
}
