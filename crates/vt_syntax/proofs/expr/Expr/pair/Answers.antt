use Rattle.vt_syntax.proofs.SurfaceMakers.{pair_is}
use Rattle.vt_syntax.proofs.expr.Expr.pair.Goals as goal

pub returns : goal.returns
returns c = pair_is _ _ _ _ _ c.in_ok-left.ensures c.in_ok-right.ensures
