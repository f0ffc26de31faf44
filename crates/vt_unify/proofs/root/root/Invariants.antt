use Rattle.std.proofs.Common.{◌<◌}
use Rattle.vt_store.specs.Stores.{cell_count, ends_at}
use Rattle.vt_unify.specs.Walks.{LeadsTo}
use Rattle.vt_store.proofs.Links.{links}
use Rattle.vt_unify.proofs.root.root.Given as goal

abbrev pub invariant-links : goal.invariant-links
invariant-links g l = record {
  within : l.last < cell_count l.store;
  leads : LeadsTo l.store l.within l.fn.cell l.last;
}

abbrev pub decreases-links : goal.decreases-links
decreases-links g l = links (ends_at l.store l.least) (cell_count l.store) l.last
