use Rattle.std.proofs.Common.{sym, ◌∙◌}
use Rattle.vt_parse.proofs.StepLemmas.{answers-as, choice-is-dim, want-name, want-other}
use Rattle.vt_parse.proofs.beginning.want.Goals as goal

pub begin-requires-clause-sign : goal.begin-requires-clause-sign
begin-requires-clause-sign c = λ e. c.requires.sign (choice-is-dim c.args.token.kind (sym c.start_of.ensures ∙ e))

pub returns-in-None : goal.returns-in-None
returns-in-None c =
    answers-as c.begin.result _ _ (want-other c.args.text.now c.args.token c.args.reader c.start_of.result c.pop_naming.new.self c.start_of.ensures c.in-None.ensures.0 c.in-None.ensures.1) c.begin.ensures

pub returns-in-Some : goal.returns-in-Some
returns-in-Some c =
    answers-as c.name.result _ _ (want-name c.args.text.now c.args.token c.args.reader c.pop_naming.new.self c.in-Some.naming c.in-Some.ensures) c.name.ensures
