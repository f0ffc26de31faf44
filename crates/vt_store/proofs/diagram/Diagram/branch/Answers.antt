use Rattle.std.proofs.Common.{rules, subst}
use Rattle.vt_dec.specs.declared.side.Side.{Side}
use Rattle.vt_dec.specs.Decisions.{MustTake}
use Rattle.vt_store.proofs.DiagramShapes.{diagram_below, never_branches, one_end, branches_at, alike_left, alike_right}
use Rattle.vt_store.proofs.diagram.Diagram.branch.Goals as goal

pub side-requires : goal.side-requires
side-requires g c = (search rules, (diagram_below _ _ _ _ _ c.in-Choice.is c.loop-part.invariant.ordered).0)

pub returns-in-None-clause-least : goal.returns-in-None-clause-least
returns-in-None-clause-least g c = branches_at _ _ _ c.loop-part.invariant.alike _ 0 _ _ _ c.in-Choice.is c.loop-part.invariant.ordered c.in-None.ensures.side

pub loop-part-preserved-in-Left : goal.loop-part-preserved-in-Left
loop-part-preserved-in-Left g c = rw c.get-part.ensures (record {
  ordered = (diagram_below _ _ _ _ _ c.in-Choice.is c.loop-part.invariant.ordered).1;
  alike = alike_left _ _ _ c.loop-part.invariant.alike 0 0 _ _ _ c.in-Choice.is (subst (λ (side : Side). MustTake c.args.within.now c.in-Choice.dim side) c.in-Left.is c.in-Some.ensures.side);
})

pub loop-part-preserved : goal.loop-part-preserved
loop-part-preserved g c = rw c.get-part-in-Right.ensures (record {
  ordered = (diagram_below _ _ _ _ _ c.in-Choice.is c.loop-part.invariant.ordered).2;
  alike = alike_right _ _ _ c.loop-part.invariant.alike 0 0 _ _ _ c.in-Choice.is (subst (λ (side : Side). MustTake c.args.within.now c.in-Choice.dim side) c.in-Right.is c.in-Some.ensures.side);
})

pub returns-in_default : goal.returns-in_default
returns-in_default g c = record {
  both = tt;
  least = never_branches _ _ _ c.loop-part.invariant.alike c.in_default.not-Choice;
  alike = λ none. one_end _ _ _ c.loop-part.invariant.alike c.in_default.not-Choice;
}

pub returns-in-None-clause-both : goal.returns-in-None-clause-both
returns-in-None-clause-both g c = ((diagram_below _ _ _ _ _ c.in-Choice.is c.loop-part.invariant.ordered).0, c.in-None.ensures.side)
