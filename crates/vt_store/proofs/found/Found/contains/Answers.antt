use Rattle.vt_store.proofs.Finding.{IsWhether-any}
use Rattle.vt_store.proofs.found.Found.contains.Goals as goal

pub returns : goal.returns
returns c = rw (c.contains.ensures, ← c.self.view_is, ← c.cell.view_is) (IsWhether-any c.self.inside.cells.keys c.cell.inside.0)
