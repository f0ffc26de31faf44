use Rattle.std.proofs.Common.{refl}
use Rattle.vt_norm.proofs.Nodes.{has_other-node}
use Rattle.vt_norm.proofs.diagram.Diagram.+has_other.Goals as goal

pub returns-then-has_other : goal.returns-then-has_other
returns-then-has_other t c =
    rw (has_other-node _ _ _ _ _ c.in-Node.is, ← c.get.ensures, ← c.has_other.ensures, c.if-has_other.true) refl

pub returns-else-has_other : goal.returns-else-has_other
returns-else-has_other t c =
    rw (has_other-node _ _ _ _ _ c.in-Node.is, ← c.get.ensures, ← c.has_other.ensures, c.if-has_other.false, ← c.get-else-has_other.ensures) c.has_other-else-has_other.ensures
