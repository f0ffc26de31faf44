use Rattle.vt_type.proofs.Renaming.{canonical-canonical}
use Rattle.vt_type.proofs.laws.canonical_again.Goals as goal

pub returns : goal.returns
returns c type h = canonical-canonical type
