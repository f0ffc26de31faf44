use Rattle.std.proofs.Common.{◌≡◌, ◌+◌, ◌<◌, ◌∷◌, drop, length, sym, ap, ◌∙◌, arith}
use Rattle.std.proofs.lemmas.Grind.{common_steps}
use Rattle.std.proofs.lemmas.List.{drop_more}
use Rattle.std.proofs.lemmas.Result.{err_from_is_err_and}
use Rattle.vt_store.specs.Stores.{cell_count, ends_at}
use Rattle.vt_norm.specs.Pairing.{places_of}
use Rattle.vt_norm.proofs.PlainReading.{open-met, open-built, made-met, made-built, made-beyond, more-met, more-built, others-beyond}
use Rattle.vt_norm.proofs.pairing.+plain.Goals as goal

pub plain-returns-in_err-kids-in-Con-clause-too_big : goal.plain-returns-in_err-kids-in-Con-clause-too_big
plain-returns-in_err-kids-in-Con-clause-too_big g t c =
    let p = err_from_is_err_and c.from_residual-in_err-kids-in-Con.result c.from_residual-in_err-kids-in-Con.ensures.1 in
    rw (p.1, p.2) (λ e. made-beyond (cell_count c.args.store.now) (ends_at c.args.store.now c.args.decision.now) c.looked.ensures.acyclic c.args.cell c.requires.cell c.in-Con.head c.in-Con.kids.now c.in-Con.ensures.looks c.args.spare.now _ (omega arith) (c.in_err-kids-in-Con.ensures.too_big (cc)))

pub plain-returns-in_ok-meet-in-Open-clause-met : goal.plain-returns-in_ok-meet-in-Open-clause-met
plain-returns-in_ok-meet-in-Open-clause-met g t c = open-met (cell_count c.args.store.now) (ends_at c.args.store.now c.args.decision.now) c.looked.ensures.acyclic c.args.cell c.requires.cell c.in-Open.last c.args.way.now.items _ _ c.in-Open.ensures.looks (rw c.deref.ensures.value at c.in_ok-meet-in-Open.ensures.met)

pub plain-returns-in_ok-meet-in-Open-clause-built : goal.plain-returns-in_ok-meet-in-Open-clause-built
plain-returns-in_ok-meet-in-Open-clause-built g t c = open-built (cell_count c.args.store.now) (ends_at c.args.store.now c.args.decision.now) c.looked.ensures.acyclic c.args.cell c.requires.cell c.in-Open.last c.args.way.now.items _ _ c.in-Open.ensures.looks (rw c.deref.ensures.value at c.in_ok-meet-in-Open.ensures.first)

pub plain-returns-in_ok-kids-in-Con-clause-met : goal.plain-returns-in_ok-kids-in-Con-clause-met
plain-returns-in_ok-kids-in-Con-clause-met g t c = made-met (cell_count c.args.store.now) (ends_at c.args.store.now c.args.decision.now) c.looked.ensures.acyclic c.args.cell c.requires.cell c.in-Con.head c.in-Con.kids.now c.in-Con.ensures.looks c.args.way.now.items _ _ c.in_ok-kids-in-Con.ensures.met

pub plain-returns-in_ok-kids-in-Con-clause-built : goal.plain-returns-in_ok-kids-in-Con-clause-built
plain-returns-in_ok-kids-in-Con-clause-built g t c = made-built (cell_count c.args.store.now) (ends_at c.args.store.now c.args.decision.now) c.looked.ensures.acyclic c.args.cell c.requires.cell c.in-Con.head c.in-Con.kids.now c.in-Con.ensures.looks c.args.way.now.items _ c.in_ok-kids-in-Con.kids c.in_ok-kids-in-Con.ensures.built

pub plain_kids-returns-in-Err-clause-too_big : goal.plain_kids-returns-in-Err-clause-too_big
plain_kids-returns-in-Err-clause-too_big g t c e =
    let below : c.args.number < length c.args.kids.now = omega (arith, c.if-number-kids.false) in
    let is = drop_more c.args.kids.now c.args.number c.index-kids-number.result below ∙ ap (λ own. own ∷ drop (c.args.number + 1) c.args.kids.now) (sym c.index-kids-number.is) in
    let back : c.pop.new.self.items ≡ c.args.way.now.items = grind (arith, common_steps) in
    let met = rw c.in_ok-enter.ensures at c.in_ok-first.ensures.met in
    let built = rw c.in_ok-enter.ensures at c.in_ok-first.ensures.built in
    others-beyond (cell_count c.args.store.now) (ends_at c.args.store.now c.args.decision.now) (drop c.args.number c.args.kids.now) c.index-kids-number.result (drop (c.args.number + 1) c.args.kids.now) is c.args.number c.args.way.now.items (places_of c.args.seen.now.items) (places_of c.plain.new.seen.items) _ _ c.in_ok-first.first built c.in_ok-first.ensures.spare (c.in-Err.ensures.too_big e)

pub plain_kids-returns-clause-built : goal.plain_kids-returns-clause-built
plain_kids-returns-clause-built g t c =
    let below : c.args.number < length c.args.kids.now = omega (arith, c.if-number-kids.false) in
    let is = drop_more c.args.kids.now c.args.number c.index-kids-number.result below ∙ ap (λ own. own ∷ drop (c.args.number + 1) c.args.kids.now) (sym c.index-kids-number.is) in
    let back : c.pop.new.self.items ≡ c.args.way.now.items = grind (arith, common_steps) in
    let met = rw c.in_ok-enter.ensures at c.in_ok-first.ensures.met in
    let built = rw c.in_ok-enter.ensures at c.in_ok-first.ensures.built in
    more-built (cell_count c.args.store.now) (ends_at c.args.store.now c.args.decision.now) (drop c.args.number c.args.kids.now) c.index-kids-number.result (drop (c.args.number + 1) c.args.kids.now) is c.args.number c.args.way.now.items (places_of c.args.seen.now.items) (places_of c.plain.new.seen.items) c.in_ok-first.first c.in-Ok.others _ met built (rw back at c.in-Ok.ensures.built) c.in_ok-more.ensures

pub plain_kids-returns-clause-met : goal.plain_kids-returns-clause-met
plain_kids-returns-clause-met g t c =
    let below : c.args.number < length c.args.kids.now = omega (arith, c.if-number-kids.false) in
    let is = drop_more c.args.kids.now c.args.number c.index-kids-number.result below ∙ ap (λ own. own ∷ drop (c.args.number + 1) c.args.kids.now) (sym c.index-kids-number.is) in
    let back : c.pop.new.self.items ≡ c.args.way.now.items = grind (arith, common_steps) in
    let met = rw c.in_ok-enter.ensures at c.in_ok-first.ensures.met in
    let built = rw c.in_ok-enter.ensures at c.in_ok-first.ensures.built in
    more-met (cell_count c.args.store.now) (ends_at c.args.store.now c.args.decision.now) (drop c.args.number c.args.kids.now) c.index-kids-number.result (drop (c.args.number + 1) c.args.kids.now) is c.args.number c.args.way.now.items (places_of c.args.seen.now.items) (places_of c.plain.new.seen.items) _ met (rw back at c.in-Ok.ensures.met)
