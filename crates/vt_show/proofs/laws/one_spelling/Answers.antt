use Rattle.vt_show.proofs.SpelledIsRead.{one_type}
use Rattle.vt_show.proofs.laws.one_spelling.Goals as goal

pub returns : goal.returns
returns c = one_type
