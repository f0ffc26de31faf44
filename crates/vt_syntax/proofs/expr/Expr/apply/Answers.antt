use Rattle.vt_syntax.proofs.SurfaceMakers.{apply_is}
use Rattle.vt_syntax.proofs.expr.Expr.apply.Goals as goal

pub returns : goal.returns
returns c = apply_is _ _ _ _ _ c.in_ok-function.ensures c.in_ok-argument.ensures
