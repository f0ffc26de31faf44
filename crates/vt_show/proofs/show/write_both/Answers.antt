use Rattle.std.proofs.lemmas.Result.{on_ok_weaker}
use Rattle.vt_show.proofs.PlainTexts.{both_written}
use Rattle.vt_show.proofs.show.write_both.Goals as goal

pub returns : goal.returns
returns c =
    on_ok_weaker c.write_type-2.result (both_written c.args.dims.now c.args.letters.now c.args.wanted.now c.args.outcome.now _ _ _ _ _ c.in_ok-push.ensures c.in_ok-write_type.ensures c.in_ok-push-2.ensures) c.write_type-2.ensures
