use Rattle.std.proofs.Common.{subst, sym}
use Rattle.vt_store.specs.Sharing.{IsRepresented}
use Rattle.vt_store.specs.declared.diagram.Diagram.{Diagram, Con}
use Rattle.vt_store.proofs.Writing.{if_ok}
use Rattle.vt_store.proofs.Representing.{IsRepresented-con, IsRepresented-choice}
use Rattle.vt_store.proofs.diagram.Diagram.+represented.Goals as goal

pub returns-in_ok-represented-in-Con : goal.returns-in_ok-represented-in-Con
returns-in_ok-represented-in-Con t c =
    subst (λ (own : Diagram). IsRepresented c.args.names.now own (Con c.in-Con.head c.in_ok-represented-in-Con.field-0)) (sym c.in-Con.is)
    (IsRepresented-con c.args.names.now c.in-Con.head c.in-Con.kids c.in_ok-represented-in-Con.field-0 c.in_ok-represented-in-Con.ensures)

pub returns-in_ok-right-in-Choice : goal.returns-in_ok-right-in-Choice
returns-in_ok-right-in-Choice t c =
    if_ok _ _ c.joined.result
    (λ made is. IsRepresented-choice c.args.names.now c.in-Choice.dim c.args.self.now c.in-Choice.left c.in-Choice.right c.in_ok-left-in-Choice.left c.in_ok-right-in-Choice.right made
    c.in-Choice.is is (rw c.get.ensures at c.in_ok-left-in-Choice.ensures) (rw c.get-in-Choice.ensures at c.in_ok-right-in-Choice.ensures)) c.joined.ensures
