use Rattle.std.proofs.Common.{[], ◌++◌, ◌∙◌}
use Rattle.vt_type.specs.Text.{variables}
use Rattle.vt_show.specs.Pairs.{both_shown}
use Rattle.vt_show.proofs.show.show_both.Goals as goal

pub returns-in-Ok : goal.returns-in-Ok
returns-in-Ok c =
    let letters = c.in_ok-meet_all-2.ensures (variables c.args.wanted.now) (c.in_ok-meet_all.ensures [] c.new-letters.ensures) in
    c.in-Ok.ensures ∙ (λ j. c.new-text.ensures.bytes j ++ both_shown c.args.tables.now.dims (letters j) c.args.wanted.now c.args.outcome.now)
