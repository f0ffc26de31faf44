use Rattle.std.proofs.Common.{ap, lit<, refl, ◌∙◌, [], ◌∷◌, ◌++◌, arith}
use Rattle.vt_dec.specs.declared.side.Side.TheVariants.{Left, Right}
use Rattle.vt_norm.proofs.Following.{is-of-space, opened-in-part, one-of}
use Rattle.vt_norm.proofs.Naming.{opens, fewer-opens}
use Rattle.vt_norm.proofs.Soles.{linked-one, linked-both}
use Rattle.vt_norm.proofs.sole.+linked.Goals as goal

pub end-requires : goal.end-requires
end-requires t c = (lit< tt, (lit< tt, (c.requires.cell, is-of-space _ c.args.part.now _ c.requires.space c.context.ensures.sized c.least.ensures)))

pub with-left-requires : goal.with-left-requires
with-left-requires t c = opened-in-part c.args.part.now _ _ c.context.ensures.is c.context.ensures.sized c.in-Some.ensures.both.0 c.in-Some.ensures.both.1

pub linked-requires : goal.linked-requires
linked-requires t c =
    let opened = opened-in-part c.args.part.now _ _ c.context.ensures.is c.context.ensures.sized c.in-Some.ensures.both.0 c.in-Some.ensures.both.1 in
    (omega (arith, fewer-opens c.args.part.now c.in-Some.dim Left opened, ap opens c.with-left.ensures), (c.requires.cell, c.requires.space))

pub with-right-requires : goal.with-right-requires
with-right-requires t c = opened-in-part c.args.part.now _ _ c.context.ensures.is c.context.ensures.sized c.in-Some.ensures.both.0 c.in-Some.ensures.both.1

pub linked-requires-in-Some : goal.linked-requires-in-Some
linked-requires-in-Some t c =
    let opened = opened-in-part c.args.part.now _ _ c.context.ensures.is c.context.ensures.sized c.in-Some.ensures.both.0 c.in-Some.ensures.both.1 in
    (omega (arith, fewer-opens c.args.part.now c.in-Some.dim Right opened, ap opens c.with-right.ensures), (c.requires.cell, c.requires.space))

pub returns-in_ok-push-in-Link : goal.returns-in_ok-push-in-Link
returns-in_ok-push-in-Link t c =
    linked-one c.args.store.now c.args.part.now c.args.cell c.in-Link.next c.least.result _ (c.acyclic.ensures.acyclic c.least.result (is-of-space _ c.args.part.now _ c.requires.space c.context.ensures.sized c.least.ensures)) c.requires.cell (one-of c.args.store.now c.args.part.now _ c.args.cell c.context.ensures.is (c.in-None.ensures.alike refl)) c.least.ensures c.in-Link.ensures
    (c.in_ok-push-in-Link.ensures.items ∙ ap (λ own. own ++ c.in-Link.next ∷ []) c.new-cells.ensures.items)

pub returns-in_ok-extend_from_slice-in-Some : goal.returns-in_ok-extend_from_slice-in-Some
returns-in_ok-extend_from_slice-in-Some t c =
    let opened = opened-in-part c.args.part.now _ _ c.context.ensures.is c.context.ensures.sized c.in-Some.ensures.both.0 c.in-Some.ensures.both.1 in
    let lefts = rw c.in-Some-2.is at c.in_ok-cells-in-Some.ensures in
    let rights = rw c.in-Some-3.is at c.in_ok-others-in-Some.ensures in
    linked-both c.args.store.now c.args.part.now _ _ c.args.cell c.in-Some.dim c.in-Some-2.cells.items c.in-Some-3.others.items _ opened c.with-left.ensures c.with-right.ensures lefts rights (rw c.deref.ensures.value at c.in_ok-extend_from_slice-in-Some.ensures.items)
