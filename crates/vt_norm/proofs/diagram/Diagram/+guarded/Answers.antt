use Rattle.vt_norm.proofs.Nodes.{guarded-node}
use Rattle.vt_norm.proofs.diagram.Diagram.+guarded.Goals as goal

pub returns-in_ok-right-in-Node : goal.returns-in_ok-right-in-Node
returns-in_ok-right-in-Node t c =
    rw (guarded-node _ _ _ _ _ c.in-Node.is, ← c.get.ensures, ← c.in_ok-on_left-in-Node.ensures, ← c.in_ok-left-in-Node.ensures, ← c.get-in-Node.ensures, ← c.in_ok-on_right-in-Node.ensures, ← c.in_ok-right-in-Node.ensures) c.joined.ensures
