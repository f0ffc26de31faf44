use Rattle.std.proofs.Common.{◌∙◌}
use Rattle.vt_parse.proofs.StepLemmas.{answers-as, need-read, step-wanted, step-awaits, step-read}
use Rattle.vt_parse.proofs.stepping.step.Goals as goal

pub continue_with-requires-clause-admitted : goal.continue_with-requires-clause-admitted
continue_with-requires-clause-admitted c = need-read c.args.reader c.in-Read.operand c.in-Read.is c.requires.admitted

pub returns-in-Wanted : goal.returns-in-Wanted
returns-in-Wanted c = answers-as c.want.result _ _ (step-wanted c.args.text.now c.args.token c.args.reader c.in-Wanted.is) c.want.ensures

pub returns-in-Awaits : goal.returns-in-Awaits
returns-in-Awaits c =
    c.await_mark.ensures ∙ step-awaits c.args.text.now c.args.token c.args.reader c.in-Awaits.mark c.mark_of.result c.in-Awaits.is c.mark_of.ensures

pub returns-in-Read : goal.returns-in-Read
returns-in-Read c = answers-as c.continue_with.result _ _ (step-read c.args.text.now c.args.token c.args.reader c.in-Read.operand c.in-Read.is) c.continue_with.ensures
