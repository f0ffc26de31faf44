use Rattle.std.proofs.Common.{refl, rules}
use Rattle.std.proofs.lemmas.Result.{IfOk-weaker}
use Rattle.vt_dec.specs.declared.side.Side.TheVariants.{Left, Right}
use Rattle.vt_norm.specs.Resolving.{IsBelow}
use Rattle.vt_norm.specs.declared.front.Front.{the_lemmas}
use Rattle.vt_norm.proofs.FrontNodes.{cells-node}
use Rattle.vt_norm.proofs.Placing.{below-side, below-both}
use Rattle.vt_norm.proofs.places.+below.Goals as goal

pub below-requires : goal.below-requires
below-requires t c = (search (rules, the_lemmas), (rw c.get.ensures (cells-node _ _ _ _ _ c.in-Node.is c.requires.cells).0, c.requires.space))

pub below-requires-in-Some-Right : goal.below-requires-in-Some-Right
below-requires-in-Some-Right t c = (search (rules, the_lemmas), (rw c.get-in-Some-Right.ensures (cells-node _ _ _ _ _ c.in-Node.is c.requires.cells).1, c.requires.space))

pub below-requires-in-None : goal.below-requires-in-None
below-requires-in-None t c = (search (rules, the_lemmas), (rw c.get-in-None.ensures (cells-node _ _ _ _ _ c.in-Node.is c.requires.cells).0, c.requires.space))

pub below-requires-in-None-2 : goal.below-requires-in-None-2
below-requires-in-None-2 t c = (search (rules, the_lemmas), (rw c.get-in-None-2.ensures (cells-node _ _ _ _ _ c.in-Node.is c.requires.cells).1, c.requires.space))

pub returns-in-Some-Left : goal.returns-in-Some-Left
returns-in-Some-Left t c =
    IfOk-weaker c.below.result _ (IsBelow c.args.store.now c.args.part.now c.args.number c.args.front.now)
    (λ child h. below-side _ _ _ c.args.front.now c.in-Node.left c.in-Node.right c.get.result.now c.in-Node.dim Left child c.in-Node.is c.get.ensures (rw c.in-Some-Left.field-0-is at c.in-Some-Left.ensures.some) h)
    c.below.ensures

pub returns-in-Some-Right : goal.returns-in-Some-Right
returns-in-Some-Right t c =
    IfOk-weaker c.below-in-Some-Right.result _ (IsBelow c.args.store.now c.args.part.now c.args.number c.args.front.now)
    (λ child h. below-side _ _ _ c.args.front.now c.in-Node.left c.in-Node.right c.get-in-Some-Right.result.now c.in-Node.dim Right child c.in-Node.is c.get-in-Some-Right.ensures (rw c.in-Some-Right.field-0-is at c.in-Some-Right.ensures.some) h)
    c.below-in-Some-Right.ensures

pub returns-in_ok-right-in-None : goal.returns-in_ok-right-in-None
returns-in_ok-right-in-None t c =
    IfOk-weaker c.joined.result _ (IsBelow c.args.store.now c.args.part.now c.args.number c.args.front.now)
    (λ child is. below-both c.args.store.now c.args.part.now _ _ c.args.number c.args.front.now c.in-Node.left c.in-Node.right c.get-in-None.result.now c.get-in-None-2.result.now c.in-Node.dim _ _ child c.in-Node.is c.get-in-None.ensures c.get-in-None-2.ensures (c.in-None.ensures.none refl) c.with-on_left.ensures c.with-on_right.ensures c.in_ok-left-in-None.ensures c.in_ok-right-in-None.ensures is)
    c.joined.ensures
