use Rattle.std.proofs.Common.{◌-◌, length}
use Rattle.vt_store.specs.Parts.{IsLater, AreCopied}
use Rattle.vt_store.proofs.store.taken.Given as goal

abbrev pub invariant-loop-cell : goal.invariant-loop-cell
invariant-loop-cell l = record {
  later : IsLater l.initial.found l.found;
  copied : AreCopied l.diagrams l.found l.copies.items;
}

abbrev pub decreases-loop-cell : goal.decreases-loop-cell
decreases-loop-cell l = length l.diagrams - length l.copies.items
