use Rattle.vt_syntax.proofs.SurfaceMakers.{fun_is}
use Rattle.vt_syntax.proofs.expr.Expr.fun.Goals as goal

pub returns : goal.returns
returns c = fun_is _ _ _ _ _ c.in_ok-body.ensures
