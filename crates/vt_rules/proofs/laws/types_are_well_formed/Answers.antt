use Rattle.vt_rules.proofs.WellFormedTypes.{ty-well_formed}
use Rattle.vt_rules.proofs.laws.types_are_well_formed.Goals as goal

pub returns : goal.returns
returns c K table env e type h d = ty-well_formed K table env e type d h
