use Rattle.vt_syntax.proofs.SurfaceMakers.{if_is}
use Rattle.vt_syntax.proofs.expr.Expr.if_else.Goals as goal

pub returns : goal.returns
returns c = if_is _ _ _ _ _ _ _ c.in_ok-condition.ensures c.in_ok-then.ensures c.in_ok-otherwise.ensures
