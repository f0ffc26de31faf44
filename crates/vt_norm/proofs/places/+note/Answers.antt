use Rattle.std.proofs.Common.{refl}
use Rattle.std.proofs.lemmas.Result.{on_ok_weaker}
use Rattle.vt_dec.specs.declared.side.Side.TheVariants.{Left, Right}
use Rattle.vt_norm.proofs.Placing.{note-side, note-both}
use Rattle.vt_norm.proofs.places.+note.Goals as goal

pub returns-in-Some-Left : goal.returns-in-Some-Left
returns-in-Some-Left t c =
    on_ok_weaker c.note.result
    (note-side c.args.part.now c.args.here.now c.args.front.now c.in-Node.left c.in-Node.right c.get.result.now c.in-Node.dim Left _ _ c.in-Node.is c.get.ensures (rw c.in-Some-Left.field-0-is at c.in-Some-Left.ensures.some)) c.note.ensures

pub returns-in-Some-Right : goal.returns-in-Some-Right
returns-in-Some-Right t c =
    on_ok_weaker c.note-in-Some-Right.result
    (note-side c.args.part.now c.args.here.now c.args.front.now c.in-Node.left c.in-Node.right c.get-in-Some-Right.result.now c.in-Node.dim Right _ _ c.in-Node.is c.get-in-Some-Right.ensures (rw c.in-Some-Right.field-0-is at c.in-Some-Right.ensures.some)) c.note-in-Some-Right.ensures

pub returns-in_ok-note-in-None : goal.returns-in_ok-note-in-None
returns-in_ok-note-in-None t c =
    on_ok_weaker c.note-in-None-2.result
    (note-both c.args.part.now _ _ c.args.here.now c.args.front.now c.in-Node.left c.in-Node.right c.get-in-None.result.now c.get-in-None-2.result.now c.in-Node.dim _ _ _ c.in-Node.is c.get-in-None.ensures c.get-in-None-2.ensures (c.in-None.ensures.none refl) c.with-on_left.ensures c.with-on_right.ensures c.in_ok-note-in-None.ensures)
    c.note-in-None-2.ensures
