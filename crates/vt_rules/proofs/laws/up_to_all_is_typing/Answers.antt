use Rattle.vt_rules.proofs.UpToAll.{whole_up_to}
use Rattle.vt_rules.proofs.laws.up_to_all_is_typing.Goals as goal

pub returns : goal.returns
returns c = whole_up_to
