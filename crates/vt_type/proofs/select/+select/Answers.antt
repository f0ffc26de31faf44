use Rattle.std.proofs.Common.{rules, refl, lit<, Some, ap, ◌∙◌}
use Rattle.vt_dec.specs.declared.side.Side.TheVariants.{Left, Right}
use Rattle.vt_type.specs.declared.vtype.VType.{the_lemmas}
use Rattle.vt_type.proofs.Makers.{more_is}
use Rattle.vt_type.proofs.Selecting.{choice_parts, more_parts, selected-choice, kids_selected-more}
use Rattle.vt_type.proofs.select.+select.Goals as goal

pub kids_at-plain_at-requires : goal.kids_at-plain_at-requires
kids_at-plain_at-requires t c =
    let parts = more_parts _ _ _ c.in-More.is c.requires in
    (search (rules, the_lemmas), rw c.get.ensures parts.0)

pub kids_at-kids_at-requires : goal.kids_at-kids_at-requires
kids_at-kids_at-requires t c =
    let parts = more_parts _ _ _ c.in-More.is c.requires in
    (search (rules, the_lemmas), rw c.get-in-Some.ensures parts.1)

pub kids_at-returns-in-None : goal.kids_at-returns-in-None
kids_at-returns-in-None t c =
    rw (kids_selected-more _ _ _ _ c.in-More.is, ← c.get.ensures, ← c.in_ok-plain_at-in-More.ensures, c.in-None.is) refl

pub kids_at-returns-in-None-2 : goal.kids_at-returns-in-None-2
kids_at-returns-in-None-2 t c =
    rw (kids_selected-more _ _ _ _ c.in-More.is, ← c.get.ensures, ← c.in_ok-plain_at-in-More.ensures, c.in-Some.is, ← c.get-in-Some.ensures, ← c.in_ok-kids_at-in-Some.ensures, c.in-None-2.is) refl

pub kids_at-returns-in_ok-new-in-Some-2 : goal.kids_at-returns-in_ok-new-in-Some-2
kids_at-returns-in_ok-new-in-Some-2 t c =
    rw (kids_selected-more _ _ _ _ c.in-More.is, ← c.get.ensures, ← c.in_ok-plain_at-in-More.ensures, c.in-Some.is, ← c.get-in-Some.ensures, ← c.in_ok-kids_at-in-Some.ensures, c.in-Some-2.is)
    (ap Some (more_is _ _ _ _ (c.first.view_is ∙ c.in_ok-first-in-Some.ensures) c.in_ok-new-in-Some-2.ensures))

pub plain_at-side-requires : goal.plain_at-side-requires
plain_at-side-requires t c = (lit< tt, (choice_parts _ _ _ _ c.in-Choice.is c.requires).0)

pub plain_at-plain_at-requires : goal.plain_at-plain_at-requires
plain_at-plain_at-requires t c =
    let parts = choice_parts _ _ _ _ c.in-Choice.is c.requires in
    (search (rules, the_lemmas), rw c.get.ensures parts.1)

pub plain_at-plain_at-requires-in-Right : goal.plain_at-plain_at-requires-in-Right
plain_at-plain_at-requires-in-Right t c =
    let parts = choice_parts _ _ _ _ c.in-Choice.is c.requires in
    (search (rules, the_lemmas), rw c.get-in-Right.ensures parts.2)

pub plain_at-returns-in-Left : goal.plain_at-returns-in-Left
plain_at-returns-in-Left t c =
    rw (selected-choice _ _ _ _ _ Left c.in-Choice.is c.in-Left.ensures, ← c.get.ensures) c.plain_at.ensures

pub plain_at-returns-in-Right : goal.plain_at-returns-in-Right
plain_at-returns-in-Right t c =
    rw (selected-choice _ _ _ _ _ Right c.in-Choice.is c.in-Right.ensures, ← c.get-in-Right.ensures) c.plain_at-in-Right.ensures
