use Rattle.vt_top.proofs.OneAnswer.{one_file_answer}
use Rattle.vt_top.proofs.laws.one_answer.Goals as goal

pub returns : goal.returns
returns c = one_file_answer
