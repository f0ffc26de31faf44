use Rattle.vt_store.proofs.DiagramShapes.{diagram_here}
use Rattle.vt_store.proofs.diagram.Diagram.+copied.Goals as goal

pub returns-in_ok-right-in-Choice : goal.returns-in_ok-right-in-Choice
returns-in_ok-right-in-Choice t c =
    rw (c.in-Choice.is, diagram_here, ← c.get.ensures, ← c.get-in-Choice.ensures, ← c.in_ok-left-in-Choice.ensures, ← c.in_ok-right-in-Choice.ensures) c.choice.ensures
