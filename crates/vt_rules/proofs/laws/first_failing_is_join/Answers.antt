use Rattle.vt_rules.proofs.FirstJoin.{first_is_join}
use Rattle.vt_rules.proofs.laws.first_failing_is_join.Goals as goal

pub returns : goal.returns
returns c K table program k plain scoped constants rise first = first_is_join K table program k plain scoped constants rise first
