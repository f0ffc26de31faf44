use Rattle.vt_store.proofs.FateShapes.{fates_here}
use Rattle.vt_store.proofs.fates.Fates.+copied.Goals as goal

pub returns-in_ok-right-in-Choice : goal.returns-in_ok-right-in-Choice
returns-in_ok-right-in-Choice t c =
    rw (c.in-Choice.is, fates_here, ← c.get.ensures, ← c.get-in-Choice.ensures, ← c.in_ok-left-in-Choice.ensures, ← c.in_ok-right-in-Choice.ensures) c.choice.ensures
