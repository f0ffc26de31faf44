use Rattle.vt_rules.proofs.PrincipalForms.{one_principal}
use Rattle.vt_rules.proofs.laws.one_principal_type.Goals as goal

pub returns : goal.returns
returns c = one_principal
