use Rattle.vt_store.proofs.FateShapes.{fates_is}
use Rattle.vt_store.proofs.fates.Fates.choice.Goals as goal

pub returns : goal.returns
returns c = fates_is _ _ _ _ _ c.in_ok-left.ensures c.in_ok-right.ensures
