use Rattle.std.proofs.Common.{◌+◌}
use Rattle.vt_diagram.proofs.table.Table.+combined.Given as goal

abbrev pub decreases-combined : goal.decreases-combined
decreases-combined g l = l.one + l.other
