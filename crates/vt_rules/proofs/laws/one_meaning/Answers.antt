use Rattle.vt_rules.proofs.PrincipalForms.{one_meaning}
use Rattle.vt_rules.proofs.laws.one_meaning.Goals as goal

pub returns : goal.returns
returns c K program decision one other m k = one_meaning K _ one other m k
