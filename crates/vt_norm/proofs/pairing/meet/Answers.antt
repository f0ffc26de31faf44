use Rattle.std.proofs.Common.{ap, [], ◌∷◌, ◌++◌, ◌∙◌}
use Rattle.vt_norm.specs.Pairing.{places_of}
use Rattle.vt_norm.proofs.PlainReading.{places-push}
use Rattle.vt_norm.proofs.pairing.meet.Goals as goal

pub returns-clause-met : goal.returns-clause-met
returns-clause-met c =
    let own = c.new-own.ensures ∙ c.in_ok-from_slice.ensures.items in
    ap places_of c.in_ok-push.ensures.items ∙ places-push c.args.seen.now.items _ ∙ ap (λ path. places_of c.args.seen.now.items ++ (c.args.cell ∷ [], path) ∷ []) own
