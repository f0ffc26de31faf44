use Rattle.std.proofs.Common.{◌*◌}
use Rattle.vt_diagram.proofs.Entering.{first_number, first_tree}
use Rattle.vt_diagram.proofs.entries.Entries.leaf.Goals as goal

pub returns-then-value-eq0-clause-is : goal.returns-then-value-eq0-clause-is
returns-then-value-eq0-clause-is g c =
    let table = c.self.invariant.table in
    rw (← c.self.view_is) (first_number (64 * g.row.N) _ _ table, rw c.if-value-eq0.true (first_tree (64 * g.row.N) _ _ table))
