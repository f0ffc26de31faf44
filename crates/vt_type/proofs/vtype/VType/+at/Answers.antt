use Rattle.std.proofs.Common.{rules, lit<}
use Rattle.vt_dec.specs.declared.side.Side.TheVariants.{Left, Right}
use Rattle.vt_type.specs.declared.vtype.VType.{the_lemmas}
use Rattle.vt_type.proofs.Selecting.{choice_parts, root_at-choice}
use Rattle.vt_type.proofs.vtype.VType.+at.Goals as goal

pub side-requires : goal.side-requires
side-requires t c = (lit< tt, (choice_parts _ _ _ _ c.in-Choice.is c.requires).0)

pub at-requires : goal.at-requires
at-requires t c =
    let parts = choice_parts _ _ _ _ c.in-Choice.is c.requires in
    (search (rules, the_lemmas), rw c.get.ensures parts.1)

pub at-requires-in-Right : goal.at-requires-in-Right
at-requires-in-Right t c =
    let parts = choice_parts _ _ _ _ c.in-Choice.is c.requires in
    (search (rules, the_lemmas), rw c.get-in-Right.ensures parts.2)

pub returns-in-Left-clause-root : goal.returns-in-Left-clause-root
returns-in-Left-clause-root t c =
    rw (root_at-choice _ _ _ _ _ Left c.in-Choice.is c.in-Left.ensures, ← c.get.ensures) c.at.ensures.root

pub returns-in-Right-clause-root : goal.returns-in-Right-clause-root
returns-in-Right-clause-root t c =
    rw (root_at-choice _ _ _ _ _ Right c.in-Choice.is c.in-Right.ensures, ← c.get-in-Right.ensures) c.at-in-Right.ensures.root
