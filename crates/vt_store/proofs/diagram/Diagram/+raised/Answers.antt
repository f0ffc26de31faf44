use Rattle.std.proofs.Common.{rules}
use Rattle.vt_store.specs.declared.diagram.Diagram.{the_lemmas}
use Rattle.vt_store.proofs.Writing.{if_ok}
use Rattle.vt_store.proofs.Appending.{room_parts, raised-made}
use Rattle.vt_store.proofs.diagram.Diagram.+raised.Goals as goal

pub raised-requires-in-Choice : goal.raised-requires-in-Choice
raised-requires-in-Choice t c =
    let parts = room_parts _ _ _ _ _ c.in-Choice.is c.requires in
    (search (rules, the_lemmas), rw c.get.ensures parts.0)

pub raised-requires-in-Choice-2 : goal.raised-requires-in-Choice-2
raised-requires-in-Choice-2 t c =
    let parts = room_parts _ _ _ _ _ c.in-Choice.is c.requires in
    (search (rules, the_lemmas), rw c.get-in-Choice.ensures parts.1)

pub returns-in_ok-right-in-Choice : goal.returns-in_ok-right-in-Choice
returns-in_ok-right-in-Choice t c =
    if_ok _ _ c.choice.result
    (λ made is. raised-made c.args.by c.in-Choice.dim c.args.self.now c.in-Choice.left c.in-Choice.right c.in_ok-left-in-Choice.left c.in_ok-right-in-Choice.right made c.in-Choice.is
    (rw c.get.ensures at c.in_ok-left-in-Choice.ensures) (rw c.get-in-Choice.ensures at c.in_ok-right-in-Choice.ensures) is) c.choice.ensures
