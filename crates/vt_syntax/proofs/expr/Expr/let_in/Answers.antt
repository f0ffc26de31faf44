use Rattle.vt_syntax.proofs.SurfaceMakers.{let_is}
use Rattle.vt_syntax.proofs.expr.Expr.let_in.Goals as goal

pub returns : goal.returns
returns c = let_is _ _ _ _ _ _ _ _ c.in_ok-bound.ensures c.in_ok-body.ensures
