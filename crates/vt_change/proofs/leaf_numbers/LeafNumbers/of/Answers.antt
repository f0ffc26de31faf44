use Rattle.std.proofs.Common.{rules, ◌∙◌}
use Rattle.vt_change.proofs.Indexing.{one_more}
use Rattle.vt_change.proofs.leaf_numbers.LeafNumbers.of.Goals as goal

pub loop-leaf-preserved : goal.loop-leaf-preserved
loop-leaf-preserved c = c.in_ok-insert.ensures.keys ∙ one_more c.args.leaves.now c.loop-leaf.leaf-index c.leaf-item.result c.loop-leaf.nodes.keys c.requires (search rules) (search rules) c.loop-leaf.invariant
