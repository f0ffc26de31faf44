use Rattle.vt_rules.proofs.Untyped.{unused_error-untyped}
use Rattle.vt_rules.proofs.witnesses.unused_error.Goals as goal

pub returns : goal.returns
returns c = unused_error-untyped
