use Rattle.std.proofs.Common.{rules, sym, ◌∙◌}
use Rattle.vt_dec.specs.declared.side.Side.TheVariants.{Left, Right}
use Rattle.vt_store.proofs.DiagramShapes.{diagram_below, end_in-choice}
use Rattle.vt_store.proofs.diagram.Diagram.at.Goals as goal

pub side-requires : goal.side-requires
side-requires g c = (search rules, (diagram_below _ _ _ _ _ c.in-Choice.is c.loop-part.invariant.ordered).0)

pub loop-part-preserved-in-Left : goal.loop-part-preserved-in-Left
loop-part-preserved-in-Left g c = rw c.get-part.ensures (record {
  ordered = (diagram_below _ _ _ _ _ c.in-Choice.is c.loop-part.invariant.ordered).1;
  same = sym (end_in-choice _ _ _ _ _ Left c.in-Choice.is c.in-Left.ensures) ∙ c.loop-part.invariant.same;
})

pub loop-part-preserved : goal.loop-part-preserved
loop-part-preserved g c = rw c.get-part-in-Right.ensures (record {
  ordered = (diagram_below _ _ _ _ _ c.in-Choice.is c.loop-part.invariant.ordered).2;
  same = sym (end_in-choice _ _ _ _ _ Right c.in-Choice.is c.in-Right.ensures) ∙ c.loop-part.invariant.same;
})
