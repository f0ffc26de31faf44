use Rattle.std.proofs.Common.{take}
use Rattle.vt_infer.specs.Mixing.{GrowsTo, ArePlaced, cell_in}
use Rattle.vt_infer.proofs.leaf_cells.place_all.Given as goal

abbrev pub invariant-loop-hole : goal.invariant-loop-hole
invariant-loop-hole g l = GrowsTo g.row.N l.initial.store l.store × ArePlaced {N = g.row.N} l.store (take l.hole-index l.met) (cell_in l.known l.main)
