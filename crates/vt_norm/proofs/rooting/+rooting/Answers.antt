use Rattle.vt_norm.proofs.Nodes.{diagram-choice, guarded_by-more}
use Rattle.vt_norm.proofs.rooting.+rooting.Goals as goal

pub diagram_of-returns-in_ok-right-in-Choice-2 : goal.diagram_of-returns-in_ok-right-in-Choice-2
diagram_of-returns-in_ok-right-in-Choice-2 t c =
    rw (diagram-choice _ _ _ _ _ c.in-Choice.is, ← c.get.ensures, ← c.in_ok-left-in-Choice.ensures, ← c.get-in-Choice.ensures, ← c.in_ok-right-in-Choice.ensures, ← c.in_ok-left-in-Choice-2.ensures, ← c.in_ok-right-in-Choice-2.ensures) c.node.ensures

pub guarded_by-returns-in_ok-others-in-More : goal.guarded_by-returns-in_ok-others-in-More
guarded_by-returns-in_ok-others-in-More t c =
    rw (guarded_by-more _ _ _ _ c.in-More.is, ← c.get.ensures, ← c.in_ok-first-in-More.ensures, ← c.get-in-More.ensures, ← c.in_ok-others-in-More.ensures) c.guarded.ensures
