use Rattle.std.proofs.Common.{◌*◌}
use Rattle.vt_diagram.proofs.Entering.{first_number, first_tree}
use Rattle.vt_diagram.proofs.entries.Entries.zero.Goals as goal

pub returns-clause-is : goal.returns-clause-is
returns-clause-is g c =
    let table = c.self.invariant.table in
    rw (← c.self.view_is) (first_number (64 * g.row.N) _ _ table, first_tree (64 * g.row.N) _ _ table)
