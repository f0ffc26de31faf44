use Rattle.vt_norm.proofs.FrontNodes.{front_node_is}
use Rattle.vt_norm.proofs.front.Front.node.Goals as goal

pub returns : goal.returns
returns c = front_node_is _ _ _ _ _ c.in_ok-left.ensures c.in_ok-right.ensures
