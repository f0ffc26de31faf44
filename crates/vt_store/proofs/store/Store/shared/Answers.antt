use Rattle.std.proofs.Common.{arith}
use Rattle.vt_store.proofs.Representing.{AreNames-representatives}
use Rattle.vt_store.proofs.store.Store.shared.Goals as goal

pub named-requires : goal.named-requires
named-requires g c =
    let names = rw c.deref.ensures.value at c.in_ok-names.ensures in
    rw (← c.self.view_is) (omega arith, (omega arith, AreNames-representatives c.self.inside.cells.items c.in_ok-names.names.items names))
