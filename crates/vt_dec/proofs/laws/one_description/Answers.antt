use Rattle.vt_dec.proofs.Description.{one_region}
use Rattle.vt_dec.proofs.laws.one_description.Goals as goal

pub returns : goal.returns
returns c = one_region
