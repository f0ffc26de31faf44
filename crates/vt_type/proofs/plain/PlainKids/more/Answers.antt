use Rattle.vt_type.proofs.Makers.{more_is}
use Rattle.vt_type.proofs.plain.PlainKids.more.Goals as goal

pub returns : goal.returns
returns c = more_is _ _ _ _ c.in_ok-kid.ensures c.in_ok-kids.ensures
