use Rattle.std.proofs.Common.{ap, sym, ◌∙◌, ◌++◌, List, ℕ}
use Rattle.std.proofs.lemmas.List.{append_assoc}
use Rattle.vt_dec.specs.declared.side.Side.{Side}
use Rattle.vt_store.specs.Narrowing.{named_on, of_side}
use Rattle.vt_store.proofs.SideLemmas.{named_on-apart, named_on-here, on_ok}
use Rattle.vt_store.proofs.diagram.Diagram.+push_named.Goals as goal

pub returns-then-ne : goal.returns-then-ne
returns-then-ne t c =
    let whole = named_on-apart c.args.dim c.in-Choice.own c.args.side c.args.self.now c.in-Choice.left c.in-Choice.right c.in-Choice.is (sym c.ne.ensures ∙ c.if-ne.true) in
    let first = rw c.get.ensures at c.in_ok-push_named-in-Choice.ensures in
    let second = rw (c.get-then-ne.ensures, first) at c.push_named-then-ne.ensures in
    on_ok c.push_named-then-ne.result _ _ (λ is. is ∙ append_assoc c.args.cells.now.items (named_on c.args.dim c.args.side c.in-Choice.left) (named_on c.args.dim c.args.side c.in-Choice.right) ∙ ap (λ (more : List ℕ). c.args.cells.now.items ++ more) (sym whole)) second

pub returns-in-Left : goal.returns-in-Left
returns-in-Left t c =
    let whole = named_on-here c.args.dim c.in-Choice.own c.args.side c.args.self.now c.in-Choice.left c.in-Choice.right c.in-Choice.is (sym c.ne.ensures ∙ c.if-ne.false) in
    let side = ap (λ (one : Side). of_side one (named_on c.args.dim c.args.side c.in-Choice.left) (named_on c.args.dim c.args.side c.in-Choice.right)) c.in-Left.is in
    let first = rw c.get-in-Left.ensures at c.push_named-in-Left.ensures in
    on_ok c.push_named-in-Left.result _ _ (λ is. is ∙ ap (λ (more : List ℕ). c.args.cells.now.items ++ more) (sym (whole ∙ side))) first

pub returns-in-Right : goal.returns-in-Right
returns-in-Right t c =
    let whole = named_on-here c.args.dim c.in-Choice.own c.args.side c.args.self.now c.in-Choice.left c.in-Choice.right c.in-Choice.is (sym c.ne.ensures ∙ c.if-ne.false) in
    let side = ap (λ (one : Side). of_side one (named_on c.args.dim c.args.side c.in-Choice.left) (named_on c.args.dim c.args.side c.in-Choice.right)) c.in-Right.is in
    let first = rw c.get-in-Right.ensures at c.push_named-in-Right.ensures in
    on_ok c.push_named-in-Right.result _ _ (λ is. is ∙ ap (λ (more : List ℕ). c.args.cells.now.items ++ more) (sym (whole ∙ side))) first
