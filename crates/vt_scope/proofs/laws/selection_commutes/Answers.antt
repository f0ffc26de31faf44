use Rattle.vt_scope.proofs.Selecting.{commutes}
use Rattle.vt_scope.proofs.laws.selection_commutes.Goals as goal

pub returns : goal.returns
returns c = commutes
