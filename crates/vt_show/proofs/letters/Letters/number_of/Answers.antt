use Rattle.std.proofs.Common.{ap, ◌∙◌}
use Rattle.std.specs.Option.{unwrap_or}
use Rattle.vt_show.proofs.Distincts.{position-map}
use Rattle.vt_show.proofs.letters.Letters.number_of.Goals as goal

pub returns : goal.returns
returns c =
    rw (← c.self.view_is) (c.unwrap_or.ensures ∙ ap (λ o. unwrap_or o 0) (c.get_index_of.ensures.index ∙ position-map (λ key. key.items) c.args.name.now c.self.inside.names.keys))
