use Rattle.std.proofs.Common.{refl}
use Rattle.vt_norm.proofs.Nodes.{differ-node}
use Rattle.vt_norm.proofs.diagram.Diagram.+differs_from.Goals as goal

pub returns-then-branch : goal.returns-then-branch
returns-then-branch t c =
    rw (differ-node _ _ _ _ _ c.in-Node.is, ← c.get.ensures, ← c.in_ok-on_left-in-Node.ensures, ← c.in_ok-differs_from-in-Node.ensures, c.if-branch.true) refl

pub returns-in_ok-on_right-in-Node : goal.returns-in_ok-on_right-in-Node
returns-in_ok-on_right-in-Node t c =
    rw (differ-node _ _ _ _ _ c.in-Node.is, ← c.get.ensures, ← c.in_ok-on_left-in-Node.ensures, ← c.in_ok-differs_from-in-Node.ensures, c.if-branch.false, ← c.get-in-Node.ensures, ← c.in_ok-on_right-in-Node.ensures) c.differs_from-in-Node.ensures
