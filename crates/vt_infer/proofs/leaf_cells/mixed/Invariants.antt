use Rattle.std.proofs.Common.{◌*◌, ◌-◌}
use Rattle.vt_infer.proofs.MixingLemmas.{Mixing}
use Rattle.vt_infer.proofs.leaf_cells.mixed.Given as goal

abbrev pub invariant-dims : goal.invariant-dims
invariant-dims g l = Mixing g.row.N l.within l.from l.initial.cell l.other l.cell l.initial.store l.store

abbrev pub decreases-dims : goal.decreases-dims
decreases-dims g l = 64 * g.row.N - l.from
