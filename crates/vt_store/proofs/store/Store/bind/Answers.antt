use Rattle.std.proofs.Common.{refl}
use Rattle.vt_store.proofs.StoreSteps.{read_at, IsStore-bound, IsBound-set}
use Rattle.vt_store.proofs.store.Store.bind.Goals as goal

pub invariant_of-self : goal.invariant_of-self
invariant_of-self g c =
    let within = rw (← c.self.view_is, ← c.cell.view_is) at c.requires.cell in
    let inside = rw (← c.self.view_is) at c.requires.to in
    let space = rw (← c.self.view_is) at c.requires.space in
    let free = rw (← c.self.view_is, ← c.cell.view_is) at c.requires.free in
    let apart = rw (← c.self.view_is, ← c.cell.view_is) at c.requires.apart in
    let read = read_at _ _ c.self.invariant _ within c.index.result.now c.index.ensures in
    let made = c.in_ok-bound.ensures.writes c.space-space.ensures.kept c.space-space.ensures.sized read.0.ordered in
    IsStore-bound g.row.N c.args.within.now c.cell.inside.0 c.args.to _ _ c.index.result.now c.in_ok-bound.bound read.1 refl refl c.space-space.ensures.sized space within made.1
    c.self.invariant inside (record { ordered = made.0; cells = c.in_ok-bound.ensures.cells _ inside read.0.cells }) free apart

pub returns-clause-ok : goal.returns-clause-ok
returns-clause-ok g c =
    let within = rw (← c.self.view_is, ← c.cell.view_is) at c.requires.cell in
    let space = rw (← c.self.view_is) at c.requires.space in
    let read = read_at _ _ c.self.invariant _ within c.index.result.now c.index.ensures in
    let made = c.in_ok-bound.ensures.writes c.space-space.ensures.kept c.space-space.ensures.sized read.0.ordered in
    rw (← c.self.view_is, ← c.cell.view_is)
    (IsBound-set g.row.N c.args.within.now c.cell.inside.0 c.args.to _ _ c.index.result.now c.in_ok-bound.bound read.1 refl refl c.space-space.ensures.sized space within made.1 refl)
