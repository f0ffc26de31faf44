use Rattle.vt_store.proofs.Finding.{AreDistinct-keys}
use Rattle.vt_store.proofs.found.Found.as_slice.Goals as goal

pub returns-clause-distinct : goal.returns-clause-distinct
returns-clause-distinct c = rw (← c.self.view_is) (AreDistinct-keys c.self.inside.cells.keys c.self.invariant)
