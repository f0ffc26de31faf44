use Rattle.std.proofs.Common.{◌≡◌, map, take}
use Rattle.vt_store.specs.Diagrams.{raised}
use Rattle.vt_store.proofs.store.raised_copies.Given as goal

abbrev pub invariant-loop-diagram : goal.invariant-loop-diagram
invariant-loop-diagram l = l.copies.items ≡ map (raised l.by) (take l.diagram-index l.diagrams)
