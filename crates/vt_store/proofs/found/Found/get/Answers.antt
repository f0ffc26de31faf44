use Rattle.vt_store.proofs.Finding.{AreDistinct-keys, AreFew-keys, found_at}
use Rattle.vt_store.proofs.found.Found.get.Goals as goal

pub returns-in_err-cell-clause-distinct : goal.returns-in_err-cell-clause-distinct
returns-in_err-cell-clause-distinct c = rw (← c.self.view_is) (AreDistinct-keys c.self.inside.cells.keys c.self.invariant)

pub returns-in_err-cell-clause-few : goal.returns-in_err-cell-clause-few
returns-in_err-cell-clause-few c = rw (← c.self.view_is) (AreFew-keys c.self.inside.cells.keys c.self.invariant)

pub returns-clause-found : goal.returns-clause-found
returns-clause-found c = rw (← c.self.view_is) (found_at c.self.inside.cells.keys c.args.place c.in_ok-cell.cell.now c.in_ok-cell.ensures.key)

pub returns-clause-distinct : goal.returns-clause-distinct
returns-clause-distinct c = rw (← c.self.view_is) (AreDistinct-keys c.self.inside.cells.keys c.self.invariant)

pub returns-clause-few : goal.returns-clause-few
returns-clause-few c = rw (← c.self.view_is) (AreFew-keys c.self.inside.cells.keys c.self.invariant)
