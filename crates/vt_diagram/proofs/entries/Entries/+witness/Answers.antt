use Rattle.std.proofs.Common.{◌*◌}
use Rattle.vt_diagram.proofs.RightCounts.{tip-witness, right-witness}
use Rattle.vt_diagram.proofs.entries.Entries.+witness.Goals as goal

pub returns-in-Leaf : goal.returns-in-Leaf
returns-in-Leaf g t c = λ from count ordered found. tip-witness (64 * g.row.N) from c.in-Leaf.field-0 count _ _ c.in-Leaf.ensures c.all_left.ensures found

pub returns-else-eq : goal.returns-else-eq
returns-else-eq g t c = λ from count ordered found.
    let fork = c.in-Choice.ensures in
    right-witness (64 * g.row.N) from c.in-Choice.dim count _ _ _ c.witness-decision.result _ fork.is ordered found (rw (c.fewest.ensures.is, c.fewest-in-Choice.ensures.is) at c.if-eq.ensures)
    (λ few is. c.witness-decision.ensures _ few fork.right_ordered is) c.set.ensures
