use Rattle.vt_store.specs.Stores.{Cells}
use Rattle.vt_store.proofs.StoreSteps.{read_at, branch_at, alike_at}
use Rattle.vt_store.proofs.store.Store.splits.Goals as goal

pub returns-clause-least : goal.returns-clause-least
returns-clause-least g c =
    let store : Cells = record { cells = c.self.inside.cells.items; space = c.self.inside.space; spare = 0 } in
    let within = rw (← c.self.view_is, ← c.cell.view_is) at c.requires.cell in
    let read = read_at g.row.N store c.self.invariant c.cell.inside.0 within c.index.result.now c.index.ensures in
    rw (← c.self.view_is, ← c.cell.view_is) (branch_at store c.cell.inside.0 c.args.within.now c.index.result.now read.1 c.branch-index.result c.branch-index.ensures.least)

pub returns-clause-alike : goal.returns-clause-alike
returns-clause-alike g c none =
    let store : Cells = record { cells = c.self.inside.cells.items; space = c.self.inside.space; spare = 0 } in
    let within = rw (← c.self.view_is, ← c.cell.view_is) at c.requires.cell in
    let read = read_at g.row.N store c.self.invariant c.cell.inside.0 within c.index.result.now c.index.ensures in
    rw (← c.self.view_is, ← c.cell.view_is) (alike_at store c.cell.inside.0 c.args.within.now c.index.result.now read.1 (c.branch-index.ensures.alike none))
