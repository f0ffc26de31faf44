use Rattle.std.proofs.Common.{◌≡◌, take}
use Rattle.vt_infer.proofs.environment.Environment.mono_cells.Given as goal

abbrev pub invariant-loop-index : goal.invariant-loop-index
invariant-loop-index g l = l.cells.items ≡ take l.index l.self-inside.monos.items
