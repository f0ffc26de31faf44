use Rattle.vt_store.proofs.pattern.Pattern.splits.Goals as goal

pub returns-clause-least : goal.returns-clause-least
returns-clause-least g c = rw (← c.self.view_is) c.branch-self.ensures.least
