use Rattle.std.proofs.Common.{◌∙◌}
use Rattle.vt_type.proofs.Makers.{choice_here, vmore_here}
use Rattle.vt_norm.proofs.parts.+copy.Goals as goal

pub copied-returns-in_ok-right-in-Choice : goal.copied-returns-in_ok-right-in-Choice
copied-returns-in_ok-right-in-Choice t c =
    rw (c.in-Choice.is ∙ choice_here _ _ _, ← c.get.ensures, ← c.in_ok-left-in-Choice.ensures, ← c.get-in-Choice.ensures, ← c.in_ok-right-in-Choice.ensures) c.choice.ensures

pub kids_copied-returns-in_ok-others-in-More : goal.kids_copied-returns-in_ok-others-in-More
kids_copied-returns-in_ok-others-in-More t c =
    rw (c.in-More.is ∙ vmore_here _ _, ← c.get.ensures, ← c.in_ok-first-in-More.ensures, ← c.get-in-More.ensures, ← c.in_ok-others-in-More.ensures) c.more.ensures
