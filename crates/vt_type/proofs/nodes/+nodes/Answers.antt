use Rattle.std.proofs.Common.{◌+◌, arith}
use Rattle.vt_type.specs.Variational.{nodes}
use Rattle.vt_type.proofs.Sizes.{nodes-positive, nodes-choice, vkids_nodes-more, spare-rest}
use Rattle.vt_type.proofs.nodes.+nodes.Goals as goal

pub spare_after-returns-in_err-room : goal.spare_after-returns-in_err-room
spare_after-returns-in_err-room t c =
    rw c.from_residual.ensures (omega (arith, nodes-positive c.args.vtype.now, c.in_err-room.ensures))

pub spare_after-returns-in_err-room-in-Choice : goal.spare_after-returns-in_err-room-in-Choice
spare_after-returns-in_err-room-in-Choice t c =
    rw (c.from_residual-in_err-room-in-Choice.ensures, nodes-choice _ _ _ _ c.in-Choice.is, ← c.get.ensures)
    (omega (arith, c.in_ok-room.ensures, c.in_err-room-in-Choice.ensures))

pub spare_after-returns-in_ok-room-in-Choice : goal.spare_after-returns-in_ok-room-in-Choice
spare_after-returns-in_ok-room-in-Choice t c =
    rw (nodes-choice _ _ _ _ c.in-Choice.is, ← c.get.ensures, ← c.get-in-Choice.ensures)
    (spare-rest _ c.args.room c.in_ok-room-in-Choice.room (1 + nodes c.get.result.now) _ _ (omega (arith, c.in_ok-room.ensures, c.in_ok-room-in-Choice.ensures)) (omega arith) c.spare_after-in-Choice.ensures)

pub spare_after_kids-returns-in_err-room-in-More :
    goal.spare_after_kids-returns-in_err-room-in-More
spare_after_kids-returns-in_err-room-in-More t c =
    rw (c.from_residual.ensures, vkids_nodes-more _ _ _ c.in-More.is, ← c.get.ensures)
    (omega (arith, c.in_err-room-in-More.ensures))

pub spare_after_kids-returns-in_ok-room-in-More : goal.spare_after_kids-returns-in_ok-room-in-More
spare_after_kids-returns-in_ok-room-in-More t c =
    rw (vkids_nodes-more _ _ _ c.in-More.is, ← c.get.ensures, ← c.get-in-More.ensures)
    (spare-rest _ _ _ _ _ _ c.in_ok-room-in-More.ensures (omega arith) c.spare_after_kids.ensures)
