use Rattle.vt_store.proofs.Writing.{if_ok}
use Rattle.vt_store.proofs.Finding.{IsMoved-choice}
use Rattle.vt_store.proofs.diagram.Diagram.+moved.Goals as goal

pub returns-in_ok-right-in-Choice : goal.returns-in_ok-right-in-Choice
returns-in_ok-right-in-Choice t c count cells =
    if_ok _ _ c.choice.result
    (λ made is. IsMoved-choice count c.args.found.now c.moved.new.found c.moved-in-Choice.new.found c.in-Choice.dim c.args.self.now c.in-Choice.left c.in-Choice.right c.in_ok-left-in-Choice.left c.in_ok-right-in-Choice.right made
    c.in-Choice.is is cells (rw c.get.ensures at (c.in_ok-left-in-Choice.ensures count)) (rw c.get-in-Choice.ensures at (c.in_ok-right-in-Choice.ensures count))) c.choice.ensures
