use Rattle.std.proofs.Common.{◌-◌, length}
use Rattle.vt_diagram.proofs.table.Table.+of_from.Given as goal

abbrev pub decreases-of_from : goal.decreases-of_from
decreases-of_from g l = length l.within.now.sides - l.from
