use Rattle.std.proofs.Common.{◌+◌, ◌-◌, ◌*◌, length}
use Rattle.vt_norm.proofs.pairing.+plain.Given as goal

-- Each node takes from what is spare; at one and the same room, the children in turn.
abbrev pub decreases-plain : goal.decreases-plain
decreases-plain g l = 512 * l.spare.now

abbrev pub decreases-plain_kids : goal.decreases-plain_kids
decreases-plain_kids g l = 512 * l.spare.now + 1 + (length l.kids.now - l.number)
