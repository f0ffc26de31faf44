use Rattle.std.proofs.Common.{subst}
use Rattle.std.specs.Prelude.{Option}
use Rattle.vt_grammar.specs.Machine.{State}
use Rattle.vt_parse.specs.Reading.{IsOutcome}
use Rattle.vt_parse.proofs.parsing.advance.Goals as goal

pub returns : goal.returns
returns c = subst (λ (o : Option State). IsOutcome o c.outcome_of.result) c.in_ok-next.ensures c.outcome_of.ensures
