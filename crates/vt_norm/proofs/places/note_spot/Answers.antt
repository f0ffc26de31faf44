use Rattle.std.proofs.Common.{◌∙◌}
use Rattle.vt_norm.proofs.Placing.{noted-open}
use Rattle.vt_norm.proofs.places.note_spot.Goals as goal

pub returns-in_ok-push-in-Open : goal.returns-in_ok-push-in-Open
returns-in_ok-push-in-Open c =
    noted-open c.args.part.now c.args.here.now _ c.in-Open.cell c.args.spot.now c.args.met.now.items c.push.new.self.items c.in-Open.is (c.new-path.ensures ∙ c.in_ok-from_slice-in-Open.ensures.items) c.in_ok-push-in-Open.ensures.items
