use Rattle.vt_parse.proofs.LawLemmas.{admitted_if_begun}
use Rattle.vt_parse.proofs.laws.admitted_if_begun.Goals as goal

pub returns : goal.returns
returns c = admitted_if_begun
