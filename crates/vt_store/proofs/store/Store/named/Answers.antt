use Rattle.std.proofs.Common.{refl}
use Rattle.vt_store.specs.Stores.{Cells}
use Rattle.vt_store.proofs.Representing.{IsStore-represented, IsShared-represented}
use Rattle.vt_store.proofs.store.Store.named.Goals as goal

pub invariant_of-store : goal.invariant_of-store
invariant_of-store g c =
    let whole : Cells = record { cells = c.self.inside.cells.items; space = c.self.inside.space; spare = 0 } in
    let new : Cells = record { cells = c.in_ok-cells.cells.items; space = c.self.inside.space; spare = 0 } in
    let names = rw (← c.self.view_is) at c.requires in
    let made = rw (c.deref.ensures.value, c.deref-2.ensures.value) at c.in_ok-cells.ensures in
    IsStore-represented g.row.N whole new c.args.names.items c.self.invariant names made refl

pub returns : goal.returns
returns g c =
    let whole : Cells = record { cells = c.self.inside.cells.items; space = c.self.inside.space; spare = 0 } in
    let new : Cells = record { cells = c.in_ok-cells.cells.items; space = c.self.inside.space; spare = 0 } in
    let names = rw (← c.self.view_is) at c.requires in
    let made = rw (c.deref.ensures.value, c.deref-2.ensures.value) at c.in_ok-cells.ensures in
    let is = IsShared-represented g.row.N whole new c.args.names.items c.self.invariant names made refl in
    rw (← c.self.view_is, c.new.ensures)
    (record { space = is.space; count = is.count; sized = is.sized; cells = is.cells; solutions = is.solutions; same = is.same })
