use Rattle.vt_type.proofs.Makers.{vmore_is}
use Rattle.vt_type.proofs.vtype.VKids.more.Goals as goal

pub returns : goal.returns
returns c = vmore_is _ _ _ _ c.in_ok-kid.ensures c.in_ok-kids.ensures
