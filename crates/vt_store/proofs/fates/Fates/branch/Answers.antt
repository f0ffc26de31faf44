use Rattle.std.proofs.Common.{rules, subst}
use Rattle.vt_dec.specs.declared.side.Side.{Side}
use Rattle.vt_dec.specs.Decisions.{MustTake}
use Rattle.vt_store.proofs.FateShapes.{fates_below, never_branches, branches_at, alike_left, alike_right}
use Rattle.vt_store.proofs.fates.Fates.branch.Goals as goal

pub returns-in-All-clause-least : goal.returns-in-All-clause-least
returns-in-All-clause-least g c = never_branches _ _ _ c.loop-part.invariant.alike _ c.in-All.is

pub side-requires : goal.side-requires
side-requires g c = (search rules, (fates_below _ _ _ _ _ c.in-Choice.is c.loop-part.invariant.ordered).0)

pub returns-in-None-clause-least : goal.returns-in-None-clause-least
returns-in-None-clause-least g c = branches_at _ _ _ c.loop-part.invariant.alike _ 0 _ _ _ c.in-Choice.is c.loop-part.invariant.ordered c.in-None.ensures.side

pub loop-part-preserved-in-Left : goal.loop-part-preserved-in-Left
loop-part-preserved-in-Left g c = rw c.get-part.ensures (record {
  ordered = (fates_below _ _ _ _ _ c.in-Choice.is c.loop-part.invariant.ordered).1;
  alike = alike_left _ _ _ c.loop-part.invariant.alike 0 0 _ _ _ c.in-Choice.is (subst (λ (side : Side). MustTake c.args.within.now c.in-Choice.dim side) c.in-Left.is c.in-Some.ensures.side);
})

pub loop-part-preserved : goal.loop-part-preserved
loop-part-preserved g c = rw c.get-part-in-Right.ensures (record {
  ordered = (fates_below _ _ _ _ _ c.in-Choice.is c.loop-part.invariant.ordered).2;
  alike = alike_right _ _ _ c.loop-part.invariant.alike 0 0 _ _ _ c.in-Choice.is (subst (λ (side : Side). MustTake c.args.within.now c.in-Choice.dim side) c.in-Right.is c.in-Some.ensures.side);
})

pub returns-in-None-clause-both : goal.returns-in-None-clause-both
returns-in-None-clause-both g c = ((fates_below _ _ _ _ _ c.in-Choice.is c.loop-part.invariant.ordered).0, c.in-None.ensures.side)
