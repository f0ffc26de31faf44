use Rattle.vt_rules.proofs.PrincipalForms.{one_principal_pair}
use Rattle.vt_rules.proofs.laws.one_principal_pair.Goals as goal

pub returns : goal.returns
returns c = one_principal_pair
