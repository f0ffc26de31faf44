use Rattle.std.proofs.Common.{ap, lit<, arith}
use Rattle.std.proofs.lemmas.Result.{IfOk-weaker}
use Rattle.vt_dec.specs.declared.side.Side.TheVariants.{Left, Right}
use Rattle.vt_norm.specs.ReadOut.{IsShownFront}
use Rattle.vt_norm.proofs.Following.{is-of-space, opened-in-part}
use Rattle.vt_norm.proofs.Naming.{opens, fewer-opens}
use Rattle.vt_norm.proofs.Showing.{shown-both}
use Rattle.vt_norm.proofs.from_store.+shown_front.Goals as goal

pub with-left-requires : goal.with-left-requires
with-left-requires t c = opened-in-part c.args.part.now _ _ c.context.ensures.is c.context.ensures.sized c.in-Some.ensures.both.0 c.in-Some.ensures.both.1

pub shown_front-requires : goal.shown_front-requires
shown_front-requires t c =
    let opened = opened-in-part c.args.part.now _ _ c.context.ensures.is c.context.ensures.sized c.in-Some.ensures.both.0 c.in-Some.ensures.both.1 in
    (omega (arith, fewer-opens c.args.part.now c.in-Some.dim Left opened, ap opens c.with-left.ensures), (c.requires.root, (c.requires.space, c.requires.pattern)))

pub with-right-requires : goal.with-right-requires
with-right-requires t c = opened-in-part c.args.part.now _ _ c.context.ensures.is c.context.ensures.sized c.in-Some.ensures.both.0 c.in-Some.ensures.both.1

pub shown_front-requires-in-Some : goal.shown_front-requires-in-Some
shown_front-requires-in-Some t c =
    let opened = opened-in-part c.args.part.now _ _ c.context.ensures.is c.context.ensures.sized c.in-Some.ensures.both.0 c.in-Some.ensures.both.1 in
    (omega (arith, fewer-opens c.args.part.now c.in-Some.dim Right opened, ap opens c.with-right.ensures), (c.requires.root, (c.requires.space, c.requires.pattern)))

pub fate-requires : goal.fate-requires
fate-requires t c = (lit< tt, (lit< tt, is-of-space _ c.args.part.now _ c.requires.pattern c.context.ensures.sized c.least.ensures))

pub returns-in-Ok : goal.returns-in-Ok
returns-in-Ok t c =
    let opened = opened-in-part c.args.part.now _ _ c.context.ensures.is c.context.ensures.sized c.in-Some.ensures.both.0 c.in-Some.ensures.both.1 in
    IfOk-weaker c.joined.result _ (IsShownFront c.args.store.now c.args.pattern.now c.args.root c.args.mark c.args.part.now)
    (λ front joined. shown-both c.args.store.now c.args.pattern.now c.args.root c.args.mark c.args.part.now _ _ c.in-Some.dim _ _ front opened c.with-left.ensures c.with-right.ensures c.in_ok-left-in-Some.ensures c.in-Ok.ensures joined)
    c.joined.ensures
