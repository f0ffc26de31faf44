use Rattle.std.proofs.Common.{Some, ap}
use Rattle.vt_norm.proofs.Nodes.{vkid_at-first, vkid_at-others}
use Rattle.vt_norm.proofs.parts.+kid_at.Goals as goal

pub returns-then-number-eq0 : goal.returns-then-number-eq0
returns-then-number-eq0 t c = rw (vkid_at-first _ _ _ _ c.in-More.is c.if-number-eq0.true) (ap Some c.get.ensures)

pub returns-else-number-eq0 : goal.returns-else-number-eq0
returns-else-number-eq0 t c =
    rw (vkid_at-others _ _ _ _ c.in-More.is c.if-number-eq0.false, ← c.get-else-number-eq0.ensures) c.kid_at.ensures
