use Rattle.vt_parse.proofs.ShutLemmas.{shut-as, shut-joint, shut-tail}
use Rattle.vt_parse.proofs.reduce.shut.Goals as goal

pub returns-in-Joint : goal.returns-in-Joint
returns-in-Joint c = shut-as c.both.result c.args.frame c.args.operand _ (shut-joint c.args.frame c.in-Joint.op c.in-Joint.at c.in-Joint.left c.args.operand c.in-Joint.is) c.both.ensures

pub returns-in-Tail : goal.returns-in-Tail
returns-in-Tail c = shut-as c.closed.result c.args.frame c.args.operand _ (shut-tail c.args.frame c.in-Tail.tail c.args.operand c.in-Tail.is) c.closed.ensures
