use Rattle.vt_unify.proofs.WalkSearches.{Grows-one}
use Rattle.vt_unify.proofs.search.Search.add.Goals as goal

pub returns : goal.returns
returns c = Grows-one _ _ _ c.args.cell c.in_ok-push.ensures.items (rw c.if-not-branch.false at c.in_ok-insert.ensures.inserted) c.in_ok-insert.ensures.few
