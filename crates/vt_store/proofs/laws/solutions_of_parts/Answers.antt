use Rattle.vt_store.proofs.Widening.{Solves-narrow, Solves-widen}
use Rattle.vt_store.proofs.laws.solutions_of_parts.Goals as goal

pub returns : goal.returns
returns c count all part whole origin is acyclic arities = record {
  narrows = Solves-narrow count all part whole origin is acyclic arities;
  widens = Solves-widen count all part whole origin is acyclic arities;
}
