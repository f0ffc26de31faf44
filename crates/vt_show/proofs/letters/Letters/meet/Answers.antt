use Rattle.std.proofs.Common.{sym, ap, ◌∙◌}
use Rattle.vt_show.proofs.Distincts.{with_name, with_name-map, with_name-known, distinct-push}
use Rattle.vt_show.proofs.letters.Letters.meet.Goals as goal

pub returns-in_ok-insert : goal.returns-in_ok-insert
returns-in_ok-insert c before e =
    let keys = c.self.inside.names.keys in
    with_name-map (λ key. key.items) c.args.name.now keys c.insert.new.self.keys _ c.in_ok-from_slice.ensures.items c.in_ok-insert.ensures.keys
    ∙ ap (λ names. with_name names c.args.name.now) (c.self.view_is ∙ e)
    ∙ sym (distinct-push before c.args.name.now)

pub returns-else-not-contains : goal.returns-else-not-contains
returns-else-not-contains c before e =
    let known = with_name-known (λ key. key.items) c.args.name.now c.self.inside.names.keys (sym c.contains.ensures ∙ c.if-not-contains.false) in
    sym c.self.view_is ∙ sym known ∙ ap (λ names. with_name names c.args.name.now) (c.self.view_is ∙ e) ∙ sym (distinct-push before c.args.name.now)
