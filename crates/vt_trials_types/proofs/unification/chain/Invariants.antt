use Rattle.std.proofs.Common.{◌≡◌, ◌<◌, ◌≤◌}
use Rattle.vt_store.specs.Stores.{cell_count}
use Rattle.vt_trials_types.proofs.unification.chain.Given as goal

abbrev pub invariant-loop-number : goal.invariant-loop-number
invariant-loop-number l = record {
  within : l.last < cell_count l.store;
  grows : cell_count l.fn.store ≤ cell_count l.store;
  space : l.store.space ≡ l.fn.store.space;
}
