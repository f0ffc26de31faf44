use Rattle.std.proofs.Common.{refl, ◌∙◌}
use Rattle.vt_syntax.proofs.CoreMakers.{fun_is}
use Rattle.vt_syntax.proofs.core_expr.Core.fun.Goals as goal

pub returns : goal.returns
returns c = c.in_ok-made.ensures ∙ fun_is _ _ _ _ refl
