use Rattle.std.proofs.Common.{arith}
use Rattle.vt_norm.proofs.Naming.{holds-by}
use Rattle.vt_norm.proofs.names.open_in.Goals as goal

pub returns-clause-none : goal.returns-clause-none
returns-clause-none c none both e p = holds-by _ _ both e p (λ dim below. c.loop-dim.invariant dim (omega (arith, c.side-sized.ensures.sized)))
