use Rattle.vt_rules.proofs.Untyped.{self_application-untyped}
use Rattle.vt_rules.proofs.witnesses.self_application.Goals as goal

pub returns : goal.returns
returns c = self_application-untyped
