use Rattle.vt_dec.proofs.Regions.{IsLeast-least}
use Rattle.vt_dec.proofs.context.Context.least.Goals as goal

pub returns-clause-least : goal.returns-clause-least
returns-clause-least g c =
    rw (← c.self.view_is) (rw c.self.invariant.parts.only at (IsLeast-least (record { sides = _; space = _ }) c.self.invariant.budget))
