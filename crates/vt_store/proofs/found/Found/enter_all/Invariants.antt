use Rattle.std.proofs.Common.{take}
use Rattle.vt_store.specs.Parts.{AreMoved}
use Rattle.vt_store.proofs.found.Found.enter_all.Given as goal

abbrev pub invariant-loop-cell : goal.invariant-loop-cell
invariant-loop-cell l = AreMoved l.initial.self l.self (take l.cell-index l.cells) l.places.items
