use Rattle.std.proofs.Common.{List}
use Rattle.vt_syntax.specs.declared.core_program.CoreProgram.{CoreProgram}
use Rattle.vt_syntax.specs.declared.leaf.Leaf.{Leaf}
use Rattle.vt_syntax.specs.Leaves.{AreLeaves}
use Rattle.vt_syntax.specs.Programs.{whole}
use Rattle.vt_syntax.specs.Selection.{IsPlainForm}
use Rattle.vt_type.specs.Constants.{Constant}
use Rattle.vt_change.specs.Curing.{StandsFor}
use Rattle.vt_change.specs.Listed.{AreListed}
use Rattle.vt_change.proofs.listing.list_all.Given as goal

abbrev pub invariant-loop-leaf : goal.invariant-loop-leaf
invariant-loop-leaf l = (K : List Constant) (core : CoreProgram) (leaves : List Leaf) → StandsFor K core leaves l.varied → IsPlainForm (whole core).form → AreLeaves core leaves
    → AreListed K (whole core) leaves l.leaf l.lines.items
