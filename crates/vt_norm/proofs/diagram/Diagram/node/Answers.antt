use Rattle.vt_norm.proofs.Nodes.{node_is}
use Rattle.vt_norm.proofs.diagram.Diagram.node.Goals as goal

pub returns : goal.returns
returns c = node_is _ _ _ _ _ c.in_ok-left.ensures c.in_ok-right.ensures
