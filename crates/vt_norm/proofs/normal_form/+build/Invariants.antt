use Rattle.std.proofs.Common.{◌+◌, ◌*◌}
use Rattle.vt_type.specs.Variational.{nodes}
use Rattle.vt_norm.specs.Parts.{kid}
use Rattle.vt_norm.proofs.normal_form.+build.Given as goal

-- A part has fewer nodes; below one type, the root comes first, then the sides or the children in turn.
abbrev pub decreases-build : goal.decreases-build
decreases-build l = 512 * nodes l.vtype.now + 300

abbrev pub decreases-split : goal.decreases-split
decreases-split l = 512 * nodes l.vtype.now + 2

abbrev pub decreases-build_side : goal.decreases-build_side
decreases-build_side l = 512 * nodes l.vtype.now + 1

abbrev pub decreases-build_kids : goal.decreases-build_kids
decreases-build_kids l = 512 * nodes l.vtype.now + l.count

abbrev pub decreases-build_kid : goal.decreases-build_kid
decreases-build_kid l = 512 * nodes (kid l.number l.vtype.now) + 301
