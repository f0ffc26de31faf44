use Rattle.std.proofs.Common.{◌<◌}
use Rattle.std.specs.List.{All}
use Rattle.vt_store.specs.Stores.{cell_count}
use Rattle.vt_unify.specs.Soles.{AreSoles}
use Rattle.vt_unify.proofs.sole.sole.Given as goal

abbrev pub invariant-turns : goal.invariant-turns
invariant-turns g l = record {
  known : AreSoles l.store l.within l.known;
  cells : All (λ own. own.cell < cell_count l.store) l.pending.items;
}
