use Rattle.vt_dec.proofs.Kept.{decided-kept, slice_get-kept}
use Rattle.vt_dec.proofs.context.Context.next_decided.Goals as goal

pub returns-in-None-clause-next : goal.returns-in-None-clause-next
returns-in-None-clause-next g c =
    rw (← c.self.view_is) (λ dim side after decides. c.in-None.ensures dim after (decided-kept c.self.inside.decided c.self.inside.least dim side decides).0)

pub returns-in-Some-clause-next : goal.returns-in-Some-clause-next
returns-in-Some-clause-next g c =
    let found = c.in-Some.ensures in
    rw (← c.self.view_is) (
      found.0,
      slice_get-kept c.self.inside.decided c.self.inside.least c.in-Some.dim _ c.side.result found.1 c.side.ensures,
      λ dim side after before decides. found.2 dim after before (decided-kept c.self.inside.decided c.self.inside.least dim side decides).0,
    )
