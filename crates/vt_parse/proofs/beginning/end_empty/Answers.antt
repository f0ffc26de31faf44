use Rattle.vt_parse.proofs.StepLemmas.{empty-none}
use Rattle.vt_parse.proofs.beginning.end_empty.Goals as goal

pub returns-in-None : goal.returns-in-None
returns-in-None c = empty-none c.args.at c.args.reader c.args.reader.stack c.in-None.ensures.0
