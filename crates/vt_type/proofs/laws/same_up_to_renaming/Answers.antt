use Rattle.vt_type.proofs.Renaming.{canonical-renaming, renaming-canonical}
use Rattle.vt_type.proofs.laws.same_up_to_renaming.Goals as goal

pub returns : goal.returns
returns c one other h k = (canonical-renaming one other, renaming-canonical one other)
