use Rattle.vt_norm.proofs.Nodes.{kid-choice}
use Rattle.vt_norm.proofs.parts.+kid.Goals as goal

pub returns-in_ok-right-in-Choice : goal.returns-in_ok-right-in-Choice
returns-in_ok-right-in-Choice t c =
    rw (kid-choice _ _ _ _ _ c.in-Choice.is, ← c.get.ensures, ← c.in_ok-left-in-Choice.ensures, ← c.get-in-Choice.ensures, ← c.in_ok-right-in-Choice.ensures) c.choice.ensures
