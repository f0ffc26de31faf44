use Rattle.vt_store.specs.Stores.{cell_count}
use Rattle.vt_scheme.specs.Schemes.{IsFrozen}
use Rattle.vt_scheme.proofs.scheme.freeze.Given as goal

abbrev pub invariant-turns : goal.invariant-turns
invariant-turns g l = IsFrozen g.row.N l.fn.store l.fn.monos l.fn.root l.scheme

abbrev pub decreases-turns : goal.decreases-turns
decreases-turns g l = cell_count l.scheme.cells
