use Rattle.std.proofs.Common.{ap, sym, ◌∙◌}
use Rattle.vt_dec.specs.declared.side.Side.{Side}
use Rattle.vt_store.specs.declared.diagram.Diagram.{Diagram}
use Rattle.vt_store.specs.Diagrams.{choice}
use Rattle.vt_store.specs.Narrowing.{on_side, of_side}
use Rattle.vt_store.proofs.Writing.{if_ok}
use Rattle.vt_store.proofs.SideLemmas.{on_side-apart, on_side-here}
use Rattle.vt_store.proofs.diagram.Diagram.+on_side.Goals as goal

pub returns-then-ne : goal.returns-then-ne
returns-then-ne t c =
    let whole = on_side-apart c.args.dim c.in-Choice.own c.args.side c.args.self.now c.in-Choice.left c.in-Choice.right c.in-Choice.is (sym c.ne.ensures ∙ c.if-ne.true) in
    let left = rw c.get.ensures at c.in_ok-left-in-Choice.ensures in
    let right = rw c.get-then-ne.ensures at c.in_ok-right-in-Choice.ensures in
    if_ok _ _ c.choice.result (λ (made : Diagram) is. is ∙ (λ i. choice c.in-Choice.own (left i) (right i)) ∙ sym whole) c.choice.ensures

pub returns-in-Left : goal.returns-in-Left
returns-in-Left t c =
    let whole = on_side-here c.args.dim c.in-Choice.own c.args.side c.args.self.now c.in-Choice.left c.in-Choice.right c.in-Choice.is (sym c.ne.ensures ∙ c.if-ne.false) in
    let side = ap (λ (one : Side). of_side one (on_side c.args.dim c.args.side c.in-Choice.left) (on_side c.args.dim c.args.side c.in-Choice.right)) c.in-Left.is in
    let first = rw c.get-in-Left.ensures at c.on_side-in-Left.ensures in
    if_ok _ _ c.on_side-in-Left.result (λ (made : Diagram) is. is ∙ sym (whole ∙ side)) first

pub returns-in-Right : goal.returns-in-Right
returns-in-Right t c =
    let whole = on_side-here c.args.dim c.in-Choice.own c.args.side c.args.self.now c.in-Choice.left c.in-Choice.right c.in-Choice.is (sym c.ne.ensures ∙ c.if-ne.false) in
    let side = ap (λ (one : Side). of_side one (on_side c.args.dim c.args.side c.in-Choice.left) (on_side c.args.dim c.args.side c.in-Choice.right)) c.in-Right.is in
    let first = rw c.get-in-Right.ensures at c.on_side-in-Right.ensures in
    if_ok _ _ c.on_side-in-Right.result (λ (made : Diagram) is. is ∙ sym (whole ∙ side)) first
