use Rattle.std.proofs.Common.{inl, inr}
use Rattle.std.proofs.lemmas.Result.{err_from_is_err_and}
use Rattle.vt_store.specs.Stores.{cell_count, ends_at}
use Rattle.vt_norm.proofs.PlainReading.{reads-pair, is-left, is-right, left-well, right-well, left-beyond, right-beyond, left-of, right-of}
use Rattle.vt_norm.proofs.pairing.read_pair.Goals as goal

pub returns-in-Err-clause-too_big : goal.returns-in-Err-clause-too_big
returns-in-Err-clause-too_big g c e =
    let own = c.own_solution.ensures (cell_count c.args.store.now) (ends_at c.args.store.now c.args.decision.now) (c.acyclic.ensures.acyclic c.args.decision.now c.requires.decision) (c.acyclic.ensures.arities c.args.decision.now c.requires.decision) in
    (left-of c.same_up_to_renaming.ensures c.canonical_again.ensures (cell_count c.args.store.now) (ends_at c.args.store.now c.args.decision.now) own.0 own.1 c.args.wanted c.args.whole c.requires.wanted c.requires.whole, right-of c.same_up_to_renaming.ensures c.canonical_again.ensures (cell_count c.args.store.now) (ends_at c.args.store.now c.args.decision.now) own.0 own.1 c.args.wanted c.args.whole c.requires.wanted c.requires.whole, reads-pair c.same_up_to_renaming.ensures c.canonical_again.ensures (cell_count c.args.store.now) (ends_at c.args.store.now c.args.decision.now) own.0 own.1 c.args.wanted c.args.whole c.requires.wanted c.requires.whole, inl (left-beyond c.same_up_to_renaming.ensures c.canonical_again.ensures (cell_count c.args.store.now) (ends_at c.args.store.now c.args.decision.now) own.0 own.1 c.args.wanted c.args.whole c.requires.wanted c.requires.whole c.args.limit (c.in-Err.ensures.too_big (cc))))

pub returns-in-Err-result-clause-too_big : goal.returns-in-Err-result-clause-too_big
returns-in-Err-result-clause-too_big g c e =
    let own = c.own_solution.ensures (cell_count c.args.store.now) (ends_at c.args.store.now c.args.decision.now) (c.acyclic.ensures.acyclic c.args.decision.now c.requires.decision) (c.acyclic.ensures.arities c.args.decision.now c.requires.decision) in
    (left-of c.same_up_to_renaming.ensures c.canonical_again.ensures (cell_count c.args.store.now) (ends_at c.args.store.now c.args.decision.now) own.0 own.1 c.args.wanted c.args.whole c.requires.wanted c.requires.whole, right-of c.same_up_to_renaming.ensures c.canonical_again.ensures (cell_count c.args.store.now) (ends_at c.args.store.now c.args.decision.now) own.0 own.1 c.args.wanted c.args.whole c.requires.wanted c.requires.whole, reads-pair c.same_up_to_renaming.ensures c.canonical_again.ensures (cell_count c.args.store.now) (ends_at c.args.store.now c.args.decision.now) own.0 own.1 c.args.wanted c.args.whole c.requires.wanted c.requires.whole, inr (right-beyond c.same_up_to_renaming.ensures c.canonical_again.ensures (cell_count c.args.store.now) (ends_at c.args.store.now c.args.decision.now) own.0 own.1 c.args.wanted c.args.whole c.requires.wanted c.requires.whole c.args.limit (c.in-Err-result.ensures.too_big (cc))))

pub returns-in-Ok-result-clause-read : goal.returns-in-Ok-result-clause-read
returns-in-Ok-result-clause-read g c =
    let own = c.own_solution.ensures (cell_count c.args.store.now) (ends_at c.args.store.now c.args.decision.now) (c.acyclic.ensures.acyclic c.args.decision.now c.requires.decision) (c.acyclic.ensures.arities c.args.decision.now c.requires.decision) in
    let one = is-left c.same_up_to_renaming.ensures c.canonical_again.ensures (cell_count c.args.store.now) (ends_at c.args.store.now c.args.decision.now) own.0 own.1 c.args.wanted c.args.whole c.requires.wanted c.requires.whole c.in-Ok.wanted (rw c.new-seen.ensures.items at c.in-Ok.ensures.built) in
    let other = is-right c.same_up_to_renaming.ensures c.canonical_again.ensures (cell_count c.args.store.now) (ends_at c.args.store.now c.args.decision.now) own.0 own.1 c.args.wanted c.args.whole c.requires.wanted c.requires.whole c.in-Ok-result.result _ (rw c.new-seen.ensures.items at c.in-Ok.ensures.met) c.in-Ok-result.ensures.built in
    (rw (one, other) (reads-pair c.same_up_to_renaming.ensures c.canonical_again.ensures (cell_count c.args.store.now) (ends_at c.args.store.now c.args.decision.now) own.0 own.1 c.args.wanted c.args.whole c.requires.wanted c.requires.whole), c.in-Ok.ensures.size, c.in-Ok-result.ensures.size)

pub returns-in-Ok-result-clause-well_formed : goal.returns-in-Ok-result-clause-well_formed
returns-in-Ok-result-clause-well_formed g c =
    let own = c.own_solution.ensures (cell_count c.args.store.now) (ends_at c.args.store.now c.args.decision.now) (c.acyclic.ensures.acyclic c.args.decision.now c.requires.decision) (c.acyclic.ensures.arities c.args.decision.now c.requires.decision) in
    let one = is-left c.same_up_to_renaming.ensures c.canonical_again.ensures (cell_count c.args.store.now) (ends_at c.args.store.now c.args.decision.now) own.0 own.1 c.args.wanted c.args.whole c.requires.wanted c.requires.whole c.in-Ok.wanted (rw c.new-seen.ensures.items at c.in-Ok.ensures.built) in
    let other = is-right c.same_up_to_renaming.ensures c.canonical_again.ensures (cell_count c.args.store.now) (ends_at c.args.store.now c.args.decision.now) own.0 own.1 c.args.wanted c.args.whole c.requires.wanted c.requires.whole c.in-Ok-result.result _ (rw c.new-seen.ensures.items at c.in-Ok.ensures.met) c.in-Ok-result.ensures.built in
    (rw one (left-well c.same_up_to_renaming.ensures c.canonical_again.ensures (cell_count c.args.store.now) (ends_at c.args.store.now c.args.decision.now) own.0 own.1 c.args.wanted c.args.whole c.requires.wanted c.requires.whole), rw other (right-well c.same_up_to_renaming.ensures c.canonical_again.ensures (cell_count c.args.store.now) (ends_at c.args.store.now c.args.decision.now) own.0 own.1 c.args.wanted c.args.whole c.requires.wanted c.requires.whole))
