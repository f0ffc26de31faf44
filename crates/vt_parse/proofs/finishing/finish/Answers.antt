use Rattle.vt_parse.proofs.StepLemmas.{need-read, finished-all}
use Rattle.vt_parse.proofs.finishing.finish.Goals as goal

pub finish_with-requires : goal.finish_with-requires
finish_with-requires c = need-read c.args.reader c.in-Read.operand c.in-Read.is c.requires

pub returns-in-Read : goal.returns-in-Read
returns-in-Read c = finished-all c.args.reader c.in-Read.operand c.finish_with.result c.in-Read.is c.finish_with.ensures
