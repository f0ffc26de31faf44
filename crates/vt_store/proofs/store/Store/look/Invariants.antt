use Rattle.std.proofs.Common.{◌<◌}
use Rattle.vt_store.specs.Stores.{ends_at, cell_count}
use Rattle.vt_store.specs.Views.{Follows}
use Rattle.vt_store.proofs.Links.{links}
use Rattle.vt_store.proofs.store.Store.look.Given as goal

abbrev pub invariant-links : goal.invariant-links
invariant-links g l = record {
  within : l.last < cell_count l.self;
  follows : Follows (ends_at l.self l.decision) l.fn.cell l.last;
}

abbrev pub decreases-links : goal.decreases-links
decreases-links g l = links (ends_at l.self l.decision) (cell_count l.self) l.last
