use Rattle.vt_parse.proofs.StepLemmas.{ended-here, ended-not}
use Rattle.vt_parse.proofs.finishing.finish_with.Goals as goal

pub reduce-requires : goal.reduce-requires
reduce-requires c = c.requires

pub returns-then-is_empty : goal.returns-then-is_empty
returns-then-is_empty c =
    ended-here c.args.defs c.into_defs.result c.args.stack c.reduce.new.stack c.args.operand c.in-Ok.last c.in-Ok.ensures c.into_defs.ensures (c.is_empty.ensures.0 c.if-is_empty.true)

pub returns-else-is_empty : goal.returns-else-is_empty
returns-else-is_empty c =
    ended-not c.args.stack c.reduce.new.stack c.args.operand c.in-Ok.last c.in-Ok.ensures c.is_empty.result c.is_empty.ensures.1 c.if-is_empty.false
