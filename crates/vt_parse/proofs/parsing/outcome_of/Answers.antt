use Rattle.vt_grammar.specs.Machine.{need}
use Rattle.vt_parse.proofs.StepLemmas.{need-refused}
use Rattle.vt_parse.proofs.parsing.outcome_of.Goals as goal

pub returns-in-None : goal.returns-in-None
returns-in-None c = c.in-None.is

pub returns-then-is_admitted : goal.returns-then-is_admitted
returns-then-is_admitted c = (c.in-Some.is, c.is_admitted.ensures.0 c.if-is_admitted.true)

pub returns-else-is_admitted : goal.returns-else-is_admitted
returns-else-is_admitted c = (c.in-Some.next, c.in-Some.is, need-refused (need c.in-Some.next) c.is_admitted.result c.is_admitted.ensures.1 c.if-is_admitted.false)
