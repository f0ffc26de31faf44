use Rattle.vt_parse.proofs.LawLemmas.{least_depth}
use Rattle.vt_parse.proofs.laws.least_depth.Goals as goal

pub returns : goal.returns
returns c = least_depth
