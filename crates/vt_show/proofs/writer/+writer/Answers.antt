use Rattle.std.proofs.Common.{ap, arith, ◌∙◌}
use Rattle.std.proofs.lemmas.Result.{on_ok_weaker}
use Rattle.vt_type.specs.Variational.{vkids_nodes}
use Rattle.vt_type.proofs.Makers.{choice_here}
use Rattle.vt_type.proofs.Selecting.{choice_parts}
use Rattle.vt_type.proofs.Sizes.{nodes-positive, nodes-choice}
use Rattle.vt_show.proofs.Writing.{choice_dims, named, name_is, shown_int, shown_bool, shown_string, shown_list, choice_text}
use Rattle.vt_show.proofs.writer.+writer.Goals as goal

pub write_arrow-write_type-requires : goal.write_arrow-write_type-requires
write_arrow-write_type-requires t c =
    let size = ap vkids_nodes c.both.ensures in
    let well = rw c.both.ensures at c.requires.well_formed in
    let dims = rw c.both.ensures at c.requires.dims in
    (omega (arith, size, nodes-positive c.both.result.1.now), (well.0, dims.0))

pub write_arrow-write_type-requires-2 : goal.write_arrow-write_type-requires-2
write_arrow-write_type-requires-2 t c =
    let size = ap vkids_nodes c.both.ensures in
    let well = rw c.both.ensures at c.requires.well_formed in
    let dims = rw c.both.ensures at c.requires.dims in
    (omega (arith, size), (well.1.0, dims.1.0))

pub write_con-returns-in-Int : goal.write_con-returns-in-Int
write_con-returns-in-Int t c =
    rw (shown_int _ _ _ _ _ c.requires.well_formed c.in-Int.is) c.push.ensures

pub write_con-returns-in-Bool : goal.write_con-returns-in-Bool
write_con-returns-in-Bool t c =
    rw (shown_bool _ _ _ _ _ c.requires.well_formed c.in-Bool.is) c.push-in-Bool.ensures

pub write_con-returns-in-Text : goal.write_con-returns-in-Text
write_con-returns-in-Text t c =
    rw (shown_string _ _ _ _ _ c.requires.well_formed c.in-Text.is) c.push-in-Text.ensures

pub write_con-returns-in-List : goal.write_con-returns-in-List
write_con-returns-in-List t c =
    rw (shown_list _ _ _ _ _ c.in-List.is c.requires.well_formed) c.write_list.ensures

pub write_list-write_type-requires : goal.write_list-write_type-requires
write_list-write_type-requires t c =
    let size = ap vkids_nodes c.only.ensures in
    let well = rw c.only.ensures at c.requires.well_formed in
    let dims = rw c.only.ensures at c.requires.dims in
    (omega (arith, size), (well.0, dims.0))

pub write_pair-write_type-requires : goal.write_pair-write_type-requires
write_pair-write_type-requires t c =
    let size = ap vkids_nodes c.both.ensures in
    let well = rw c.both.ensures at c.requires.well_formed in
    let dims = rw c.both.ensures at c.requires.dims in
    (omega (arith, size), (well.0, dims.0))

pub write_pair-write_type-requires-2 : goal.write_pair-write_type-requires-2
write_pair-write_type-requires-2 t c =
    let size = ap vkids_nodes c.both.ensures in
    let well = rw c.both.ensures at c.requires.well_formed in
    let dims = rw c.both.ensures at c.requires.dims in
    (omega (arith, size), (well.1.0, dims.1.0))

pub write_type-unwrap-requires : goal.write_type-unwrap-requires
write_type-unwrap-requires t c =
    let dims = choice_dims _ _ _ _ _ c.in-Choice.is c.requires.dims in
    named _ _ _ _ (rw c.dim.view_is at c.name.ensures) dims.0

pub write_type-write_type-requires : goal.write_type-write_type-requires
write_type-write_type-requires t c =
    let size = nodes-choice _ _ _ _ c.in-Choice.is in
    let well = choice_parts _ _ _ _ c.in-Choice.is c.requires.well_formed in
    let dims = choice_dims _ _ _ _ _ c.in-Choice.is c.requires.dims in
    rw c.get.ensures (omega (arith, size), (well.1, dims.1))

pub write_type-write_type-requires-in-Choice : goal.write_type-write_type-requires-in-Choice
write_type-write_type-requires-in-Choice t c =
    let size = nodes-choice _ _ _ _ c.in-Choice.is in
    let well = choice_parts _ _ _ _ c.in-Choice.is c.requires.well_formed in
    let dims = choice_dims _ _ _ _ _ c.in-Choice.is c.requires.dims in
    rw c.get-in-Choice.ensures (omega (arith, size), (well.2, dims.2))

pub write_type-returns-in_ok-write_type-in-Choice-2 :
    goal.write_type-returns-in_ok-write_type-in-Choice-2
write_type-returns-in_ok-write_type-in-Choice-2 t c =
    let name = name_is _ _ _ _ (rw c.dim.view_is at c.name.ensures) c.unwrap.ensures in
    rw (c.in-Choice.is ∙ choice_here _ _ _, ← name, ← c.get.ensures, ← c.get-in-Choice.ensures)
    (on_ok_weaker c.push-in-Choice-4.result
    (λ last. choice_text _ _ _ _ _ _ _ _ _ _ _ c.in_ok-push-in-Choice.ensures c.in_ok-push-in-Choice-2.ensures c.in_ok-push-in-Choice-3.ensures c.in_ok-write_type-in-Choice.ensures c.in_ok-push-in-Choice-4.ensures c.in_ok-write_type-in-Choice-2.ensures last)
    c.push-in-Choice-4.ensures)
