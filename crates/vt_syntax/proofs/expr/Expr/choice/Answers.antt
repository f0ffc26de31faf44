use Rattle.vt_syntax.proofs.SurfaceMakers.{choice_is}
use Rattle.vt_syntax.proofs.expr.Expr.choice.Goals as goal

pub returns : goal.returns
returns c = choice_is _ _ _ _ _ _ _ c.in_ok-left.ensures c.in_ok-right.ensures
