use Rattle.vt_parse.proofs.LawLemmas.{one_answer}
use Rattle.vt_parse.proofs.laws.one_answer.Goals as goal

pub returns : goal.returns
returns c = one_answer
