use Rattle.std.proofs.Common.{refl, ap, ◌∙◌}
use Rattle.std.proofs.lemmas.Result.{IfOk-weaker}
use Rattle.vt_type.specs.declared.vtype.VType.{Con}
use Rattle.vt_type.proofs.Makers.{vmore_is}
use Rattle.vt_show.proofs.reader.two.Goals as goal

pub returns : goal.returns
returns c =
    IfOk-weaker c.new-3.result _ _ (λ t is. is ∙ ap (Con c.args.head) (vmore_is _ _ _ _ refl (c.in_ok-others.ensures ∙ vmore_is _ _ _ _ refl c.in_ok-none.ensures))) c.new-3.ensures
