use Rattle.vt_rules.proofs.OneChanges.{one_list_of_changes}
use Rattle.vt_rules.proofs.laws.one_list_of_changes.Goals as goal

pub returns : goal.returns
returns c K program leaves one other m k = one_list_of_changes K program leaves one other m k
