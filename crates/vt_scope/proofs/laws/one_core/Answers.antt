use Rattle.vt_scope.proofs.OneCore.{one_core}
use Rattle.vt_scope.proofs.laws.one_core.Goals as goal

pub returns : goal.returns
returns c = one_core
