use Rattle.vt_rules.proofs.Marking.{marked}
use Rattle.vt_rules.proofs.laws.typed_are_marked.Goals as goal

pub returns : goal.returns
returns c K mark env e type h d = marked K mark env e type d h
