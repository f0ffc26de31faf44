use Rattle.std.proofs.Common.{◌-◌, length}
use Rattle.vt_store.proofs.fates.Fates.+guarded.Given as goal

abbrev pub decreases-guarded : goal.decreases-guarded
decreases-guarded g l = length l.within.now.sides - l.from
