use Rattle.std.proofs.Common.{◌∙◌}
use Rattle.std.proofs.lemmas.Result.{on_ok_weaker}
use Rattle.vt_type.proofs.Makers.{vmore_here, choice_here}
use Rattle.vt_show.proofs.Distincts.{distinct_more}
use Rattle.vt_show.proofs.letters.+letters.Goals as goal

pub meet_all-returns-in_ok-meet_all-in-Choice : goal.meet_all-returns-in_ok-meet_all-in-Choice
meet_all-returns-in_ok-meet_all-in-Choice t c =
    let first = rw c.get.ensures at c.in_ok-meet_all-in-Choice.ensures in
    rw (c.in-Choice.is ∙ choice_here _ _ _)
    (on_ok_weaker c.meet_all-in-Choice.result (λ then. distinct_more _ _ _ _ _ first then) (rw c.get-in-Choice.ensures at c.meet_all-in-Choice.ensures))

pub meet_kids-returns-in_ok-meet_all-in-More : goal.meet_kids-returns-in_ok-meet_all-in-More
meet_kids-returns-in_ok-meet_all-in-More t c =
    let first = rw c.get.ensures at c.in_ok-meet_all-in-More.ensures in
    rw (c.in-More.is ∙ vmore_here _ _)
    (on_ok_weaker c.meet_kids.result (λ then. distinct_more _ _ _ _ _ first then) (rw c.get-in-More.ensures at c.meet_kids.ensures))
