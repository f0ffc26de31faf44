use Rattle.std.proofs.Common.{arith}
use Rattle.vt_type.proofs.Sizes.{kids_nodes-more, spare-rest}
use Rattle.vt_change.proofs.ranking.+nodes.Goals as goal

pub left_of_kids-returns-in_err-room-in-More : goal.left_of_kids-returns-in_err-room-in-More
left_of_kids-returns-in_err-room-in-More t c =
    rw (c.from_residual.ensures, kids_nodes-more _ _ _ c.in-More.is, ← c.get.ensures)
    (omega (arith, c.in_err-room-in-More.ensures))

pub left_of_kids-returns-in_ok-room-in-More : goal.left_of_kids-returns-in_ok-room-in-More
left_of_kids-returns-in_ok-room-in-More t c =
    rw (kids_nodes-more _ _ _ c.in-More.is, ← c.get.ensures, ← c.get-in-More.ensures)
    (spare-rest _ _ _ _ _ _ c.in_ok-room-in-More.ensures (omega arith) c.left_of_kids.ensures)
