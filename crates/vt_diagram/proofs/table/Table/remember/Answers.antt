use Rattle.std.proofs.Common.{◌*◌}
use Rattle.vt_diagram.proofs.Remembering.{known-more}
use Rattle.vt_diagram.proofs.table.Table.remember.Goals as goal

pub invariant_of-self-2 : goal.invariant_of-self-2
invariant_of-self-2 g c =
    known-more (64 * g.row.N) c.self.inside.entries c.self.inside.known c.insert.new.self _ _ c.self.invariant (rw (← c.self.view_is) at c.requires) c.in_ok-insert.ensures.updates
