use Rattle.std.proofs.Common.{sym}
use Rattle.vt_syntax.proofs.SurfaceSeen.{more_seen}
use Rattle.vt_syntax.proofs.expr.Exprs.more.Goals as goal

pub returns : goal.returns
returns c = more_seen _ _ _ _ (sym c.in_ok-first.ensures) (sym c.in_ok-rest.ensures)
