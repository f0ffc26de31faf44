use Rattle.std.proofs.lemmas.Result.{IfOk-weaker}
use Rattle.vt_report.specs.declared.refusal.Refusal.TheVariants.{TooBigPart}
use Rattle.vt_top.proofs.AnswerLaws.{refused_answer, typed_answer, too_big_refused}
use Rattle.vt_top.proofs.answer.type_answer.Goals as goal

pub returns-in-Ok : goal.returns-in-Ok
returns-in-Ok c =
    IfOk-weaker c.printed-answer.result _ _ (λ a is. typed_answer _ _ _ _ _ c.requires.source c.in-Ok.normal a.status _ c.in-Ok.ensures.typed is) c.printed-answer.ensures

pub returns-in-Err-TooBig : goal.returns-in-Err-TooBig
returns-in-Err-TooBig c =
    let fault = rw c.in-Err-TooBig.field-0-is at c.in-Err-TooBig.ensures.fault in
    IfOk-weaker c.refused.result _ _ (λ a is. refused_answer c.args.source.now.text.now (TooBigPart c.in-Err-TooBig.part) a.status _ (too_big_refused _ _ _ _ _ c.requires.source _ fault) is) c.refused.ensures
