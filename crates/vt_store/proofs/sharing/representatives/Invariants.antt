use Rattle.std.proofs.Common.{◌≤◌, length}
use Rattle.vt_store.specs.Sharing.{AreRepresentatives}
use Rattle.vt_store.proofs.sharing.representatives.Given as goal

abbrev pub invariant-loop-cell : goal.invariant-loop-cell
invariant-loop-cell l = record {
  within : l.cell ≤ length l.diagrams;
  are : AreRepresentatives l.diagrams l.cell l.names.items;
}

abbrev pub decreases-loop-cell : goal.decreases-loop-cell
decreases-loop-cell l = l.cell
