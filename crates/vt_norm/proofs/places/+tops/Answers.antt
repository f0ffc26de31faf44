use Rattle.std.proofs.Common.{refl}
use Rattle.std.proofs.lemmas.Result.{IfOk-weaker}
use Rattle.vt_dec.specs.declared.side.Side.TheVariants.{Left, Right}
use Rattle.vt_norm.specs.Names.{IsTopTree}
use Rattle.vt_norm.proofs.Placing.{top-side, top-both}
use Rattle.vt_norm.proofs.places.+tops.Goals as goal

pub returns-in-Some-Left : goal.returns-in-Some-Left
returns-in-Some-Left t c =
    IfOk-weaker c.tops.result _ (IsTopTree c.args.part.now c.args.met.now c.args.here.now c.args.front.now)
    (λ tree h. top-side _ c.args.met.now c.args.here.now c.args.front.now c.in-Node.left c.in-Node.right c.get.result.now c.in-Node.dim Left tree c.in-Node.is c.get.ensures (rw c.in-Some-Left.field-0-is at c.in-Some-Left.ensures.some) h)
    c.tops.ensures

pub returns-in-Some-Right : goal.returns-in-Some-Right
returns-in-Some-Right t c =
    IfOk-weaker c.tops-in-Some-Right.result _ (IsTopTree c.args.part.now c.args.met.now c.args.here.now c.args.front.now)
    (λ tree h. top-side _ c.args.met.now c.args.here.now c.args.front.now c.in-Node.left c.in-Node.right c.get-in-Some-Right.result.now c.in-Node.dim Right tree c.in-Node.is c.get-in-Some-Right.ensures (rw c.in-Some-Right.field-0-is at c.in-Some-Right.ensures.some) h)
    c.tops-in-Some-Right.ensures

pub returns-in_ok-right-in-None : goal.returns-in_ok-right-in-None
returns-in_ok-right-in-None t c =
    IfOk-weaker c.joined.result _ (IsTopTree c.args.part.now c.args.met.now c.args.here.now c.args.front.now)
    (λ tree is. top-both c.args.part.now _ _ c.args.met.now c.args.here.now c.args.front.now c.in-Node.left c.in-Node.right c.get-in-None.result.now c.get-in-None-2.result.now c.in-Node.dim _ _ tree c.in-Node.is c.get-in-None.ensures c.get-in-None-2.ensures (c.in-None.ensures.none refl) c.with-on_left.ensures c.with-on_right.ensures c.in_ok-left-in-None.ensures c.in_ok-right-in-None.ensures is)
    c.joined.ensures
