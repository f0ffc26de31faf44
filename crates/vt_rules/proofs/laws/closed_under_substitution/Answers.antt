use Rattle.vt_rules.proofs.Substitution.{ty-substituted}
use Rattle.vt_rules.proofs.laws.closed_under_substitution.Goals as goal

pub returns : goal.returns
returns c K images w env e type d = ty-substituted images w K env e type d
