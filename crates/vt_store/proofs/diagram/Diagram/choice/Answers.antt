use Rattle.vt_store.proofs.DiagramShapes.{diagram_is}
use Rattle.vt_store.proofs.diagram.Diagram.choice.Goals as goal

pub returns : goal.returns
returns c = diagram_is _ _ _ _ _ c.in_ok-left.ensures c.in_ok-right.ensures
