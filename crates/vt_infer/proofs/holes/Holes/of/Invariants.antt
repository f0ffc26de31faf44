use Rattle.std.proofs.Common.{◌≡◌, ◌<◌, ℕ, Some, slice_get}
use Rattle.std.specs.List.{Contains}
use Rattle.vt_syntax.specs.declared.leaf.Leaf.{Leaf}
use Rattle.vt_infer.proofs.holes.Holes.of.Given as goal

abbrev pub invariant-loop-leaf : goal.invariant-loop-leaf
invariant-loop-leaf g l = (place : ℕ) (leaf : Leaf) → place < l.leaf-index → slice_get l.leaves place ≡ Some leaf → Contains l.asked.keys leaf.node
