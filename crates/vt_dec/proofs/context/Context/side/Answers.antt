use Rattle.std.proofs.Common.{◌≡◌, Some, None, true, false, slice_get, ap, ◌∙◌}
use Rattle.vt_dec.specs.Decisions.{IsKept}
use Rattle.vt_dec.proofs.Kept.{slice_get-kept, slice_get-kept_free}
use Rattle.vt_dec.proofs.Regions.{MustTake-decided, MustTake-spent, IsSideOf-none}
use Rattle.vt_dec.proofs.context.Context.side.Goals as goal

pub returns-then-contains-clause-side : goal.returns-then-contains-clause-side
returns-then-contains-clause-side g c =
    let decided : slice_get c.self.inside.decided c.args.dim ≡ Some true = c.contains.ensures ∙ ap Some c.if-contains.true in
    rw (← c.self.view_is)
    (MustTake-decided (record { sides = _; space = _ }) c.args.dim c.side.result (slice_get-kept c.self.inside.decided c.self.inside.least c.args.dim true c.side.result decided c.side.ensures))

pub returns-then-is_spent-clause-side : goal.returns-then-is_spent-clause-side
returns-then-is_spent-clause-side g c =
    let decided : slice_get c.self.inside.decided c.args.dim ≡ Some false = c.contains.ensures ∙ ap Some c.if-contains.false in
    let free : slice_get c.args.self.now.sides c.args.dim ≡ Some None =
    rw (← c.self.view_is) (slice_get-kept_free _ c.self.inside.decided c.self.inside.least c.args.dim c.self.invariant.parts c.requires decided)
    in
    MustTake-spent c.args.self.now c.args.dim (c.is_spent.ensures.0 c.if-is_spent.true) free

pub returns-else-is_spent-clause-side : goal.returns-else-is_spent-clause-side
returns-else-is_spent-clause-side g c =
    let decided : slice_get c.self.inside.decided c.args.dim ≡ Some false = c.contains.ensures ∙ ap Some c.if-contains.false in
    let free : slice_get c.args.self.now.sides c.args.dim ≡ Some None =
    rw (← c.self.view_is) (slice_get-kept_free _ c.self.inside.decided c.self.inside.least c.args.dim c.self.invariant.parts c.requires decided)
    in
    let kept : IsKept c.args.self.now = rw (← c.self.view_is) c.self.invariant.budget in
    IsSideOf-none c.args.self.now c.args.dim kept (λ spent. cc (c.is_spent.ensures.1 spent, c.if-is_spent.false)) free
