use Rattle.std.proofs.Common.{◌+◌, ◌*◌}
use Rattle.vt_syntax.specs.CoreTrees.{nodes_below}
use Rattle.vt_infer.proofs.expression.+typed.Given as goal

abbrev pub decreases-typed : goal.decreases-typed
decreases-typed g l = 2 * nodes_below l.core.now.form

abbrev pub decreases-function : goal.decreases-function
decreases-function g l = 2 * nodes_below l.body.now.form + 1

abbrev pub decreases-application : goal.decreases-application
decreases-application g l = 2 * (nodes_below l.function.now.form + nodes_below l.argument.now.form) + 1

abbrev pub decreases-let_in : goal.decreases-let_in
decreases-let_in g l = 2 * (nodes_below l.bound.now.form + nodes_below l.body.now.form) + 1

abbrev pub decreases-let_rec : goal.decreases-let_rec
decreases-let_rec g l = 2 * (nodes_below l.bound.now.form + nodes_below l.body.now.form) + 1

abbrev pub decreases-alternatives : goal.decreases-alternatives
decreases-alternatives g l = 2 * (nodes_below l.left.now.form + nodes_below l.right.now.form) + 1
