use Rattle.std.proofs.Common.{◌*◌, rules}
use Rattle.vt_diagram.proofs.Shapes.{joined-same}
use Rattle.vt_diagram.proofs.entries.Entries.choice.Goals as goal

pub returns-then-eq-clause-is : goal.returns-then-eq-clause-is
returns-then-eq-clause-is g c = joined-same (64 * g.row.N) _ _ _ _ (search rules) c.requires.left.0 c.requires.left.1
