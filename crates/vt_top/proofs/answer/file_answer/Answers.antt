use Rattle.std.proofs.Common.{subst, sym, inl, IfOk, string_bytes}
use Rattle.std.proofs.lemmas.Result.{IfOk-weaker}
use Rattle.vt_file.specs.Files.{IsSourceOf}
use Rattle.vt_file.specs.Refusals.{IsFileFault}
use Rattle.vt_top.specs.Answers.{FileAnswer}
use Rattle.vt_top.proofs.AnswerLaws.{refused_answer}
use Rattle.vt_top.proofs.answer.file_answer.Goals as goal

pub type_answer-answer-requires-clause-source : goal.type_answer-answer-requires-clause-source
type_answer-answer-requires-clause-source c =
    let s = c.in-Ok.source in
    subst (λ bytes. IsSourceOf bytes s.program s.resolved.core s.resolved.leaves s.resolved.tables.dims) (sym c.in-Ok.ensures.text) c.in-Ok.ensures.source

pub returns-in-Ok : goal.returns-in-Ok
returns-in-Ok c = subst (λ bytes. IfOk c.type_answer-answer.result (λ a. FileAnswer bytes a.status (string_bytes a.text))) c.in-Ok.ensures.text c.type_answer-answer.ensures

pub returns-in-Err-Refused : goal.returns-in-Err-Refused
returns-in-Err-Refused c =
    let none = subst (IsFileFault c.args.bytes.now) c.in-Err-Refused.field-0-is c.in-Err-Refused.ensures.fault in
    IfOk-weaker c.refused.result _ _ (λ a is. refused_answer c.args.bytes.now c.in-Err-Refused.refusal a.status _ (inl none) is) c.refused.ensures
