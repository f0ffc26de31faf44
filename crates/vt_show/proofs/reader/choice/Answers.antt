use Rattle.std.proofs.Common.{refl, ◌∙◌}
use Rattle.std.proofs.lemmas.Result.{IfOk-weaker}
use Rattle.vt_type.proofs.Makers.{choice_is}
use Rattle.vt_show.proofs.reader.choice.Goals as goal

pub returns : goal.returns
returns c = IfOk-weaker c.new.result _ _ (λ t is. is ∙ choice_is _ _ _ _ _ refl refl) c.new.ensures
