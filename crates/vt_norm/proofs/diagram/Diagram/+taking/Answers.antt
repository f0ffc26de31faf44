use Rattle.vt_norm.proofs.Nodes.{taking-left, taking-right, taking-other}
use Rattle.vt_norm.proofs.diagram.Diagram.+taking.Goals as goal

pub returns-in-Left : goal.returns-in-Left
returns-in-Left t c =
    rw (taking-left _ _ _ _ _ _ c.in-Node.is c.if-eq.ensures c.in-Left.is, ← c.get.ensures) c.taking.ensures

pub returns-in-Right : goal.returns-in-Right
returns-in-Right t c =
    rw (taking-right _ _ _ _ _ _ c.in-Node.is c.if-eq.ensures c.in-Right.is, ← c.get-in-Right.ensures) c.taking-in-Right.ensures

pub returns-in_ok-right-in-Node : goal.returns-in_ok-right-in-Node
returns-in_ok-right-in-Node t c =
    rw (taking-other _ _ _ _ _ _ c.in-Node.is c.if-eq.ensures, ← c.get-in-Node.ensures, ← c.in_ok-left-in-Node.ensures, ← c.get-in-Node-2.ensures, ← c.in_ok-right-in-Node.ensures) c.node.ensures
