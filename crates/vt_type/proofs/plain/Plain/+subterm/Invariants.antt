use Rattle.std.proofs.Common.{length}
use Rattle.vt_type.proofs.plain.Plain.+subterm.Given as goal

abbrev pub decreases-subterm : goal.decreases-subterm
decreases-subterm l = length l.path.now
