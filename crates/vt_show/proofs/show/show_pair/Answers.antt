use Rattle.std.proofs.Common.{◌∙◌}
use Rattle.std.proofs.lemmas.Result.{IfOk-weaker}
use Rattle.vt_show.proofs.PlainTexts.{of_plain-well_formed, of_plain-dims, both_text-plain}
use Rattle.vt_show.proofs.show.show_pair.Goals as goal

pub show_both-text-requires-clause-wanted : goal.show_both-text-requires-clause-wanted
show_both-text-requires-clause-wanted c = rw c.in_ok-wanted.ensures (of_plain-well_formed _ c.requires.wanted)

pub show_both-text-requires-clause-wanted_dims : goal.show_both-text-requires-clause-wanted_dims
show_both-text-requires-clause-wanted_dims c = rw c.in_ok-wanted.ensures (of_plain-dims _ c.args.pair.now.wanted)

pub show_both-text-requires-clause-outcome : goal.show_both-text-requires-clause-outcome
show_both-text-requires-clause-outcome c = rw c.in-Ok.ensures (of_plain-well_formed _ c.requires.outcome)

pub show_both-text-requires-clause-outcome_dims : goal.show_both-text-requires-clause-outcome_dims
show_both-text-requires-clause-outcome_dims c = rw c.in-Ok.ensures (of_plain-dims _ c.args.pair.now.result)

pub returns-in-Ok : goal.returns-in-Ok
returns-in-Ok c =
    IfOk-weaker c.show_both-text.result _ _ (λ text is. is ∙ both_text-plain _ _ _ _ _ c.in_ok-wanted.ensures c.in-Ok.ensures) c.show_both-text.ensures
