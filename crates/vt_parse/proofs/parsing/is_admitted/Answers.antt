use Rattle.vt_parse.proofs.StepLemmas.{need-both, need-one}
use Rattle.vt_parse.proofs.parsing.is_admitted.Goals as goal

pub returns-then-is_some : goal.returns-then-is_some
returns-then-is_some c =
    need-both c.args.reader.now c.admitted.result c.depth_at.result c.is_some.result c.admitted.ensures c.is_some.ensures c.is_some-then-is_some.result c.depth_at.ensures c.is_some-then-is_some.ensures c.if-is_some.true

pub returns-else-is_some : goal.returns-else-is_some
returns-else-is_some c = need-one c.args.reader.now c.admitted.result c.admitted.result c.is_some.result c.admitted.ensures c.is_some.ensures c.if-is_some.false
