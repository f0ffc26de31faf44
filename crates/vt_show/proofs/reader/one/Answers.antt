use Rattle.std.proofs.Common.{refl, ap, ◌∙◌}
use Rattle.std.proofs.lemmas.Result.{IfOk-weaker}
use Rattle.vt_type.specs.declared.vtype.VType.{Con}
use Rattle.vt_type.proofs.Makers.{vmore_is}
use Rattle.vt_show.proofs.reader.one.Goals as goal

pub returns : goal.returns
returns c =
    IfOk-weaker c.new-2.result _ _ (λ t is. is ∙ ap (Con c.args.head) (vmore_is _ _ _ _ refl c.in_ok-none.ensures)) c.new-2.ensures
