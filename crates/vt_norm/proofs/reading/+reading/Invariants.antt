use Rattle.std.proofs.Common.{◌+◌, ◌*◌}
use Rattle.vt_norm.proofs.reading.+reading.Given as goal

-- Each node takes from what is spare; at one and the same room, the sides or the children in turn.
abbrev pub decreases-build : goal.decreases-build
decreases-build l = 512 * l.spare.now

abbrev pub decreases-split : goal.decreases-split
decreases-split l = 512 * l.spare.now + 300

abbrev pub decreases-build_kids : goal.decreases-build_kids
decreases-build_kids l = 512 * l.spare.now + 1 + l.count
