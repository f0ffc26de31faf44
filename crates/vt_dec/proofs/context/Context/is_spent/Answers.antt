use Rattle.std.proofs.Common.{arith}
use Rattle.vt_dec.proofs.Kept.{rights_taken}
use Rattle.vt_dec.proofs.context.Context.is_spent.Goals as goal

pub returns-in-AtMost : goal.returns-in-AtMost
returns-in-AtMost g c =
    let held = c.self.invariant in
    let counted = rw c.in-AtMost.is at held.count in
    let same = rights_taken _ c.self.inside.decided c.self.inside.least held.parts in
    rw (← c.self.view_is, c.in-AtMost.is) (grind (arith, counted, same))
