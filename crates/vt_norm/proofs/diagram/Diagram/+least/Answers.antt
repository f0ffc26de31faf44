use Rattle.std.proofs.Common.{sym, ◌∙◌}
use Rattle.std.proofs.lemmas.Bool.{not-true, not-false, both_ways}
use Rattle.vt_norm.proofs.Nodes.{least-below, least-own, least-same}
use Rattle.vt_norm.proofs.diagram.Diagram.+least.Goals as goal
use Rattle.vt_norm.proofs.diagram.Diagram.+least.Goals.{then-is_below, else-is_below+in_ok-differs_from-in-Node}

pub returns-then-not-branch : goal.returns-then-not-branch
returns-then-not-branch t c =
    let below = rw (c.in_ok-on_left-in-Node.ensures, c.in_ok-on_right-in-Node.ensures, c.get.ensures, c.get-in-Node.ensures) at c.lesser-below.ensures in
    elim c.if-is_below.branch [
      | then-is_below w ↦ below ∙ sym (least-below _ _ _ _ c.in-Node.is (rw below at (sym c.is_below.ensures ∙ w.if-is_below.true)))
      | else-is_below+in_ok-differs_from-in-Node w ↦ (
          let differ = rw (w.get-else-is_below.ensures, w.get-else-is_below-2.ensures) at w.in_ok-differs_from-in-Node.ensures in
          below ∙ sym (least-same _ _ _ _ c.in-Node.is (sym differ ∙ not-true _ (sym w.value-is ∙ c.if-not-branch.true))))
    ]

pub returns-else-not-branch : goal.returns-else-not-branch
returns-else-not-branch t c =
    let below = rw (c.in_ok-on_left-in-Node.ensures, c.in_ok-on_right-in-Node.ensures, c.get.ensures, c.get-in-Node.ensures) at c.lesser-below.ensures in
    elim c.if-is_below.branch [
      | then-is_below w ↦ absurd (both_ways _ c.if-not-branch.false (w.value-is ∙ w.if-is_below.true))
      | else-is_below+in_ok-differs_from-in-Node w ↦ (
          let differ = rw (w.get-else-is_below.ensures, w.get-else-is_below-2.ensures) at w.in_ok-differs_from-in-Node.ensures in
          sym
          (least-own _ _ _ _ c.in-Node.is (rw below at (sym c.is_below.ensures ∙ w.if-is_below.false)) (sym differ ∙ not-false _ (sym w.value-is ∙ c.if-not-branch.false))))
    ]
