use Rattle.std.proofs.Common.{ap, ◌∙◌, arith}
use Rattle.vt_diagram.specs.Trees.{value_in}
use Rattle.vt_diagram.proofs.Sides.{by_side-no_right}
use Rattle.vt_diagram.proofs.entries.Entries.first.Goals as goal

pub loop-value-preserved : goal.loop-value-preserved
loop-value-preserved g c = record {
  within = omega (arith, c.in-Choice.ensures.left_in, c.loop-value.invariant.within);
  same = λ d none. c.loop-value.invariant.same d none ∙ ap (value_in d) c.in-Choice.ensures.is ∙ by_side-no_right d _ _ _ none;
}
