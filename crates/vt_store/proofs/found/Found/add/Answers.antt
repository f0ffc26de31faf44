use Rattle.vt_store.proofs.Finding.{AreFew-keys, IsAdded-key}
use Rattle.vt_store.proofs.found.Found.add.Goals as goal

pub returns-clause-added : goal.returns-clause-added
returns-clause-added c = rw (c.in_ok-is_new.ensures.keys, c.in_ok-is_new.ensures.added, ← c.self.view_is, ← c.cell.view_is) (IsAdded-key c.self.inside.cells.keys c.cell.inside.0)

pub returns-clause-few : goal.returns-clause-few
returns-clause-few c = AreFew-keys c.insert_full.new.self.keys c.in_ok-is_new.ensures.unique
