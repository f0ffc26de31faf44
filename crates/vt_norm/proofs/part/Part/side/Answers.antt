use Rattle.std.proofs.Common.{◌≡◌, None, slice_get, refl, arith, sym}
use Rattle.vt_dec.proofs.Agreement.{Agrees-length}
use Rattle.vt_norm.proofs.Deciding.{open-of-sides, past-end, some-side}
use Rattle.vt_norm.proofs.part.Part.side.Goals as goal

pub returns-then-dim-lt64-clause-some : goal.returns-then-dim-lt64-clause-some
returns-then-dim-lt64-clause-some c = rw (← c.self.view_is) (some-side c.self.inside.within c.args.dim _ c.self.invariant c.side.ensures.side)

pub returns-then-dim-lt64-clause-none : goal.returns-then-dim-lt64-clause-none
returns-then-dim-lt64-clause-none c e =
    rw (← c.self.view_is) (open-of-sides c.self.inside.within c.args.dim c.self.invariant (rw c.dim.view_is at c.if-dim-lt64.true) (rw e at c.side.ensures.side))

pub returns-else-dim-lt64-clause-some : goal.returns-else-dim-lt64-clause-some
returns-else-dim-lt64-clause-some c d h =
    let below = rw c.dim.view_is at c.if-dim-lt64.false in
    let long = sym (Agrees-length _ d (rw (← c.self.view_is) at h)) in
    let e : slice_get d c.args.dim ≡ None = past-end d c.args.dim (omega (arith, below, long, c.self.invariant.sized)) in
    rw e refl
