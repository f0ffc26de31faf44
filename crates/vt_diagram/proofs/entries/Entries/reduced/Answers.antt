use Rattle.std.proofs.Common.{◌*◌}
use Rattle.vt_diagram.proofs.Canonical.{one_id, ordered_at}
use Rattle.vt_diagram.proofs.entries.Entries.reduced.Goals as goal

pub returns-clause-one : goal.returns-clause-one
returns-clause-one g c = rw (← c.self.view_is) (one_id (64 * g.row.N) _ _ c.self.invariant.table)

pub returns-clause-ordered : goal.returns-clause-ordered
returns-clause-ordered g c = rw (← c.self.view_is) (ordered_at (64 * g.row.N) _ _ c.self.invariant.table)
