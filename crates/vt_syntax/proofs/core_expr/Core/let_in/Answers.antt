use Rattle.std.proofs.Common.{refl, ◌∙◌}
use Rattle.vt_syntax.proofs.CoreMakers.{let_is}
use Rattle.vt_syntax.proofs.core_expr.Core.let_in.Goals as goal

pub returns : goal.returns
returns c = c.in_ok-made.ensures ∙ let_is _ _ _ _ _ _ refl refl
