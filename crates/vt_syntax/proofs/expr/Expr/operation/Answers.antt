use Rattle.vt_syntax.proofs.SurfaceMakers.{op_is}
use Rattle.vt_syntax.proofs.expr.Expr.operation.Goals as goal

pub returns : goal.returns
returns c = op_is _ _ _ _ _ _ _ c.in_ok-left.ensures c.in_ok-right.ensures
