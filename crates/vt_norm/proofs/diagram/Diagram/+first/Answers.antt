use Rattle.vt_norm.proofs.Nodes.{first-node}
use Rattle.vt_norm.proofs.diagram.Diagram.+first.Goals as goal

pub returns-in-Node : goal.returns-in-Node
returns-in-Node t c = rw (first-node _ _ _ _ c.in-Node.is, ← c.get.ensures) c.first.ensures
