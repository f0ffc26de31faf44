use Rattle.std.proofs.Common.{refl, ◌∙◌}
use Rattle.vt_syntax.proofs.CoreMakers.{choice_is}
use Rattle.vt_syntax.proofs.core_expr.Core.choice.Goals as goal

pub returns : goal.returns
returns c = c.in_ok-made.ensures ∙ choice_is _ _ _ _ _ _ _ refl refl
