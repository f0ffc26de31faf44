use Rattle.std.proofs.Common.{arith}
use Rattle.vt_store.specs.Stores.{Cells}
use Rattle.vt_store.proofs.Straight.{AreNames-straight}
use Rattle.vt_store.proofs.store.Store.straightened.Goals as goal

pub named-requires : goal.named-requires
named-requires g c =
    let whole : Cells = record { cells = c.self.inside.cells.items; space = c.self.inside.space; spare = 0 } in
    let names = rw c.deref.ensures.value at c.in_ok-names.ensures in
    rw (← c.self.view_is) (omega arith, (omega arith, AreNames-straight g.row.N whole c.self.invariant c.in_ok-names.names.items names))
