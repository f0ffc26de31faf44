use Rattle.std.proofs.Common.{◌-◌, refl, vec_len, vec_capacity}
use Rattle.vt_store.specs.Stores.{Cells, IsStore}
use Rattle.vt_store.proofs.NarrowedStore.{IsStore-narrowed, IsNarrowed-narrowed}
use Rattle.vt_store.proofs.store.Store.cut.Goals as goal

pub invariant_of-store : goal.invariant_of-store
invariant_of-store g c =
    let whole : Cells = record { cells = c.self.inside.cells.items; space = c.self.inside.space; spare = 0 } in
    let new : Cells = record { cells = c.in_ok-cells.field-0.items; space = c.self.inside.space; spare = 0 } in
    let sides = rw c.deref.ensures.value at c.in_ok-sides.ensures in
    let cut = rw c.deref-2.ensures.value at c.in-Ok.ensures in
    let names = rw c.deref-3.ensures.value at c.in-Ok-names.ensures in
    let made = rw (c.deref-4.ensures.value, c.deref-5.ensures.value) at c.in_ok-cells.ensures in
    let cells = rw (← c.self.view_is) at c.requires.cells in
    let root = rw (← c.self.view_is) at c.requires.root in
    let space = rw (← c.self.view_is) at c.requires.space in
    IsStore-narrowed g.row.N c.args.dim whole new c.args.cells.now c.args.root c.in_ok-sides.sides.left c.in_ok-sides.sides.right c.in-Ok.cut.items names.ones names.others c.in-Ok-names.names.items
    c.self.invariant space c.requires.dim cells root sides.left sides.right cut names.lefts names.rights names.paired made refl

pub returns : goal.returns
returns g c =
    let whole : Cells = record { cells = c.self.inside.cells.items; space = c.self.inside.space; spare = vec_capacity c.self.inside.cells - vec_len c.self.inside.cells } in
    let new : Cells = record { cells = c.in_ok-cells.field-0.items; space = c.self.inside.space; spare = vec_capacity c.in_ok-cells.field-0 - vec_len c.in_ok-cells.field-0 } in
    let good : IsStore g.row.N whole = record { acyclic = c.self.invariant.acyclic; diagrams = c.self.invariant.diagrams } in
    let sides = rw c.deref.ensures.value at c.in_ok-sides.ensures in
    let cut = rw c.deref-2.ensures.value at c.in-Ok.ensures in
    let names = rw c.deref-3.ensures.value at c.in-Ok-names.ensures in
    let made = rw (c.deref-4.ensures.value, c.deref-5.ensures.value) at c.in_ok-cells.ensures in
    let cells = rw (← c.self.view_is) at c.requires.cells in
    let root = rw (← c.self.view_is) at c.requires.root in
    let space = rw (← c.self.view_is) at c.requires.space in
    rw (← c.self.view_is)
    (IsNarrowed-narrowed g.row.N c.args.dim whole new c.args.cells.now c.args.root c.in_ok-sides.sides.left c.in_ok-sides.sides.right c.in-Ok.cut.items names.ones names.others c.in-Ok-names.names.items
    good space c.requires.dim cells root sides.left sides.right cut names.lefts names.rights names.paired made refl)

pub pairs-names-requires-clause-left : goal.pairs-names-requires-clause-left
pairs-names-requires-clause-left g c =
    let sides = rw c.deref.ensures.value at c.in_ok-sides.ensures in
    let cut = rw c.deref-2.ensures.value at c.in-Ok.ensures in
    rw (c.deref-3.ensures.value, cut.sized) sides.left.within

pub pairs-names-requires-clause-right : goal.pairs-names-requires-clause-right
pairs-names-requires-clause-right g c =
    let sides = rw c.deref.ensures.value at c.in_ok-sides.ensures in
    let cut = rw c.deref-2.ensures.value at c.in-Ok.ensures in
    rw (c.deref-3.ensures.value, cut.sized) sides.right.within
