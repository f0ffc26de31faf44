use Rattle.vt_parse.proofs.LawLemmas.{one_program}
use Rattle.vt_parse.proofs.laws.one_program.Goals as goal

pub returns : goal.returns
returns c = one_program
