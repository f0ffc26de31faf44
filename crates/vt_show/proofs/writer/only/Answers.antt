use Rattle.vt_show.proofs.Writing.{one_kid}
use Rattle.vt_show.proofs.writer.only.Goals as goal

pub returns : goal.returns
returns c = rw c.get.ensures (one_kid _ _ _ c.in-More.is c.requires)
