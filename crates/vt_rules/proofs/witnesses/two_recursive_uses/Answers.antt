use Rattle.vt_rules.proofs.Untyped.{two_recursive_uses-untyped}
use Rattle.vt_rules.proofs.witnesses.two_recursive_uses.Goals as goal

pub returns : goal.returns
returns c = two_recursive_uses-untyped
