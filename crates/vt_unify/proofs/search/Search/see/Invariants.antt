use Rattle.std.proofs.Common.{take}
use Rattle.vt_unify.specs.Searches.{Grows}
use Rattle.vt_unify.proofs.search.Search.see.Given as goal

abbrev pub invariant-loop-cell : goal.invariant-loop-cell
invariant-loop-cell l = Grows (take l.cell-index l.cells) l.split l.fn.self l.self
