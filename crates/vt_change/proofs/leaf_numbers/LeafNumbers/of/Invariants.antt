use Rattle.std.proofs.Common.{◌≡◌, map, take}
use Rattle.vt_change.proofs.leaf_numbers.LeafNumbers.of.Given as goal

abbrev pub invariant-loop-leaf : goal.invariant-loop-leaf
invariant-loop-leaf l = l.nodes.keys ≡ map (λ one. one.node) (take l.leaf-index l.leaves)
