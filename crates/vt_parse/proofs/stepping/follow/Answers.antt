use Rattle.std.proofs.Common.{◌∙◌, sym}
use Rattle.vt_parse.proofs.StepLemmas.{answers-as, choice-is-dim, follow-joined, follow-ended}
use Rattle.vt_parse.proofs.stepping.follow.Goals as goal

pub argument-requires-clause-sign : goal.argument-requires-clause-sign
argument-requires-clause-sign c = λ e. c.requires.sign (choice-is-dim c.args.token.kind (sym c.start_of-start.ensures ∙ e))

pub returns-in_ok-joined : goal.returns-in_ok-joined
returns-in_ok-joined c =
    answers-as c.argument.result _ _
    (follow-joined c.args.text.now c.args.token c.args.reader c.start_of-start.result c.in_ok-joined.joined c.args.operand c.start_of-start.ensures (sym c.is_operand.ensures ∙ c.if-is_operand.true) c.in_ok-joined.ensures)
    c.argument.ensures

pub returns-else-is_operand : goal.returns-else-is_operand
returns-else-is_operand c =
    answers-as c.end_at.result _ _
    (follow-ended c.args.text.now c.args.token c.args.reader c.start_of-start.result c.mark_of.result c.args.operand c.start_of-start.ensures (sym c.is_operand.ensures ∙ c.if-is_operand.false) c.mark_of.ensures)
    c.end_at.ensures
