use Rattle.vt_rules.proofs.Marking.{unmarked}
use Rattle.vt_rules.proofs.laws.marked_are_typed.Goals as goal

pub returns : goal.returns
returns c K mark env e type wanted d = unmarked K mark env e type wanted d
