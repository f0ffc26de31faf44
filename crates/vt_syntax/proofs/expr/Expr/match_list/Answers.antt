use Rattle.vt_syntax.proofs.SurfaceMakers.{match_is}
use Rattle.vt_syntax.proofs.expr.Expr.match_list.Goals as goal

pub returns : goal.returns
returns c = match_is _ _ _ _ _ _ _ _ _ _ _ c.in_ok-list.ensures c.in_ok-empty.ensures c.in_ok-cell.ensures
