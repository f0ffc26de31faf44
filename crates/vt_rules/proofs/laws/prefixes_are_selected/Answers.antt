use Rattle.vt_rules.proofs.Prefixes.{prefix_selected}
use Rattle.vt_rules.proofs.laws.prefixes_are_selected.Goals as goal

pub returns : goal.returns
returns c = prefix_selected
