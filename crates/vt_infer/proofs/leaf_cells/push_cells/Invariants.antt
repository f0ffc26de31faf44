use Rattle.std.proofs.Common.{◌≡◌, ◌++◌, map, take}
use Rattle.vt_infer.specs.Mixing.{cell_in}
use Rattle.vt_infer.proofs.leaf_cells.push_cells.Given as goal

abbrev pub invariant-loop-leaf : goal.invariant-loop-leaf
invariant-loop-leaf l = l.cells.items ≡ l.initial.cells.items ++ map (λ leaf. cell_in l.known l.main leaf.node) (take l.leaf-index l.leaves)
