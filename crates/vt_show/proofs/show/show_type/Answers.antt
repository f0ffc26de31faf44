use Rattle.std.proofs.Common.{refl, []}
use Rattle.vt_show.proofs.show.show_type.Goals as goal

pub returns-in-Ok : goal.returns-in-Ok
returns-in-Ok c =
    let letters = c.in_ok-meet_all.ensures [] c.new-letters.ensures in
    rw (c.in-Ok.ensures, c.new-text.ensures.bytes, letters) refl
