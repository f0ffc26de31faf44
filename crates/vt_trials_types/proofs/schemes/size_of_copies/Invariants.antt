use Rattle.std.proofs.Common.{◌<◌}
use Rattle.vt_store.specs.Stores.{cell_count}
use Rattle.vt_trials_types.proofs.schemes.size_of_copies.Given as goal

abbrev pub invariant-loop : goal.invariant-loop
invariant-loop l = l.root < cell_count l.store
