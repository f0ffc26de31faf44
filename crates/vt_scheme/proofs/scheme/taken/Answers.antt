use Rattle.vt_scheme.proofs.Freezing.{IsFrozen-part}
use Rattle.vt_scheme.proofs.scheme.taken.Goals as goal

pub returns : goal.returns
returns g c = IsFrozen-part c.args.store.now c.args.monos.now c.args.root c.in_ok-part.part c.in_ok-part.ensures.part c.solutions_of_parts.ensures c.acyclic.ensures.acyclic c.acyclic.ensures.arities
