use Rattle.std.proofs.Common.{◌+◌, ◌*◌}
use Rattle.vt_syntax.specs.SurfaceTrees.{core_nodes, list_nodes}
use Rattle.vt_scope.proofs.expressions.+expressions.Given as goal

-- Eight times the nodes of the core that is still to be made, and the rank of a function among those that
-- look at the same expression.

abbrev pub decreases-list : goal.decreases-list
decreases-list l = 8 * list_nodes l.items.now

abbrev pub decreases-expression : goal.decreases-expression
decreases-expression l = 8 * core_nodes l.expr.now.form + 1

abbrev pub decreases-argument : goal.decreases-argument
decreases-argument l = 8 * core_nodes l.operand.now.form + 2

abbrev pub decreases-under : goal.decreases-under
decreases-under l = 8 * core_nodes l.body.now.form + 2

abbrev pub decreases-bound_part : goal.decreases-bound_part
decreases-bound_part l = 8 * core_nodes l.bound.now.form + 3

abbrev pub decreases-arm : goal.decreases-arm
decreases-arm l = 8 * core_nodes l.cell.now.form + 3

abbrev pub decreases-function : goal.decreases-function
decreases-function l = 8 * core_nodes l.body.now.form + 3

abbrev pub decreases-binding : goal.decreases-binding
decreases-binding l = 8 * (core_nodes l.bound.now.form + core_nodes l.body.now.form) + 4

abbrev pub decreases-condition : goal.decreases-condition
decreases-condition l = 8 * (core_nodes l.test.now.form + core_nodes l.then.now.form + core_nodes l.other.now.form) + 4

abbrev pub decreases-matched : goal.decreases-matched
decreases-matched l = 8 * (core_nodes l.list.now.form + core_nodes l.empty.now.form + core_nodes l.cell.now.form) + 4

abbrev pub decreases-operation : goal.decreases-operation
decreases-operation l = 8 * (core_nodes l.left.now.form + core_nodes l.right.now.form) + 4

abbrev pub decreases-apply : goal.decreases-apply
decreases-apply l = 8 * (core_nodes l.left.now.form + core_nodes l.right.now.form) + 4

abbrev pub decreases-pair : goal.decreases-pair
decreases-pair l = 8 * (core_nodes l.left.now.form + core_nodes l.right.now.form) + 4

abbrev pub decreases-choice : goal.decreases-choice
decreases-choice l = 8 * (core_nodes l.left.now.form + core_nodes l.right.now.form) + 4
