use Rattle.std.proofs.Common.{◌≡◌, false, subst, rules}
use Rattle.vt_store.specs.Patterns.{IsMasked}
use Rattle.vt_unify.specs.declared.compare.Comparison.TheVariants as found
use Rattle.vt_unify.specs.Pairs.{equation_of, equations_in}
use Rattle.vt_unify.proofs.Resolving.{parts_more, parts_known, stable-more}
use Rattle.vt_unify.proofs.Carrying.{gives_equal, gives_killed, gives_skipped, carried_same, carried_more, carried_split, carried_parts}
use Rattle.vt_unify.proofs.Turning.{turn_split, turn_equal, turn_parts, turn_killed, turn_open, turn_skipped, compared_at}
use Rattle.vt_unify.proofs.next_binding.turn_alive.Goals as goal

pub returns-in_ok-push_halves-in-Split-clause-turn : goal.returns-in_ok-push_halves-in-Split-clause-turn
returns-in_ok-push_halves-in-Split-clause-turn g c =
    turn_split g.row.N c.args.node c.args.store.now c.args.pattern.now (equation_of c.args.whole.now c.args.pairs.now.narrowed.items c.args.pair.now) (equations_in c.args.whole.now c.args.pairs.now) c.requires.posed
    c.in-Split.dim (equations_in c.args.whole.now c.push_halves.new.pairs)
    (compared_at g.row.N c.args.store.now c.context-within.result.now _ c.args.pair.now.left c.args.pair.now.right c.in-Ok.found (found.Split c.in-Split.dim) c.context-within.ensures c.in-Split.is c.in-Ok.ensures)
    c.in_ok-push_halves-in-Split.ensures.split

pub returns-in-Equal-clause-turn : goal.returns-in-Equal-clause-turn
returns-in-Equal-clause-turn g c =
    turn_equal g.row.N c.args.node c.args.store.now c.args.pattern.now (equation_of c.args.whole.now c.args.pairs.now.narrowed.items c.args.pair.now) (equations_in c.args.whole.now c.args.pairs.now) c.requires.posed
    (compared_at g.row.N c.args.store.now c.context-within.result.now _ c.args.pair.now.left c.args.pair.now.right c.in-Ok.found found.Equal c.context-within.ensures c.in-Equal.is c.in-Ok.ensures)

pub returns-in_ok-mask-in-Differ-clause-turn : goal.returns-in_ok-mask-in-Differ-clause-turn
returns-in_ok-mask-in-Differ-clause-turn g c =
    turn_killed g.row.N c.args.node c.args.store.now c.args.pattern.now (equation_of c.args.whole.now c.args.pairs.now.narrowed.items c.args.pair.now) (equations_in c.args.whole.now c.args.pairs.now) c.requires.posed
    c.mask.new.self c.requires.space c.requires.alive
    (compared_at g.row.N c.args.store.now c.context-within.result.now _ c.args.pair.now.left c.args.pair.now.right c.in-Ok.found found.Differ c.context-within.ensures c.in-Differ.is c.in-Ok.ensures)
    (subst (λ region. IsMasked g.row.N region c.args.node c.args.pattern.now c.mask.new.self) c.context-within.ensures c.in_ok-mask-in-Differ.ensures.ok)

pub returns-in-Open-clause-turn : goal.returns-in-Open-clause-turn
returns-in-Open-clause-turn g c =
    turn_open g.row.N c.args.node c.args.store.now c.args.pattern.now (equation_of c.args.whole.now c.args.pairs.now.narrowed.items c.args.pair.now) (equations_in c.args.whole.now c.args.pairs.now) c.requires.posed
    c.in-Open.left c.in-Open.right c.requires.alive
    (compared_at g.row.N c.args.store.now c.context-within.result.now _ c.args.pair.now.left c.args.pair.now.right c.in-Ok.found (found.Open c.in-Open.left c.in-Open.right) c.context-within.ensures c.in-Open.is
    c.in-Ok.ensures)

pub returns-in_ok-push_parts-in-Parts-clause-known : goal.returns-in_ok-push_parts-in-Parts-clause-known
returns-in_ok-push_parts-in-Parts-clause-known g c = (
  parts_known c.args.pairs.now.narrowed.items c.push_parts.new.pairs.narrowed.items c.args.pair.now.context c.in-Parts.lefts.now c.in-Parts.rights.now c.args.pairs.now.list.items c.push_parts.new.pairs.list.items
      c.in_ok-push_parts-in-Parts.ensures.narrowed c.in_ok-push_parts-in-Parts.ensures.list c.requires.pair_known c.requires.known,
  tt,
)

pub returns-in_ok-push_parts-in-Parts-clause-turn : goal.returns-in_ok-push_parts-in-Parts-clause-turn
returns-in_ok-push_parts-in-Parts-clause-turn g c =
    turn_parts g.row.N c.args.node c.args.store.now c.args.pattern.now (equation_of c.args.whole.now c.args.pairs.now.narrowed.items c.args.pair.now) (equations_in c.args.whole.now c.args.pairs.now) c.requires.posed
    c.in-Parts.lefts.now c.in-Parts.rights.now (equations_in c.args.whole.now c.push_parts.new.pairs) c.acyclic.ensures.acyclic c.acyclic.ensures.arities
    (compared_at g.row.N c.args.store.now c.context-within.result.now _ c.args.pair.now.left c.args.pair.now.right c.in-Ok.found (found.Parts c.in-Parts.lefts c.in-Parts.rights) c.context-within.ensures c.in-Parts.is
    c.in-Ok.ensures)
    (parts_more c.args.whole.now c.args.pairs.now.narrowed.items c.push_parts.new.pairs.narrowed.items c.args.pair.now.context c.in-Parts.lefts.now c.in-Parts.rights.now c.args.pairs.now.list.items
    c.push_parts.new.pairs.list.items c.in_ok-push_parts-in-Parts.ensures.narrowed c.in_ok-push_parts-in-Parts.ensures.list)

pub returns-in_ok-push_halves-in-Split-clause-carried : goal.returns-in_ok-push_halves-in-Split-clause-carried
returns-in_ok-push_halves-in-Split-clause-carried g c = λ none.
    let can = (compared_at g.row.N c.args.store.now c.context-within.result.now _ c.args.pair.now.left c.args.pair.now.right c.in-Ok.found (found.Split c.in-Split.dim) c.context-within.ensures c.in-Split.is c.in-Ok.ensures) in
    carried_split g.row.N c.args.node c.args.store.now c.args.pattern.now (equations_in c.args.whole.now c.args.pairs.now) (equation_of c.args.whole.now c.args.pairs.now.narrowed.items c.args.pair.now) c.args.whole.now c.args.pairs.now.narrowed.items c.push_halves.new.pairs.narrowed.items (equations_in c.args.whole.now c.push_halves.new.pairs) c.args.seen.now c.in-Split.dim can
    c.in_ok-push_halves-in-Split.ensures.split (stable-more c.args.whole.now c.args.pairs.now.narrowed.items c.push_halves.new.pairs.narrowed.items c.in_ok-push_halves-in-Split.ensures.grows) c.requires.carried

pub returns-in-Equal-clause-carried : goal.returns-in-Equal-clause-carried
returns-in-Equal-clause-carried g c = λ none.
    carried_same g.row.N c.args.store.now c.args.pattern.now c.args.pattern.now (equations_in c.args.whole.now c.args.pairs.now) (equation_of c.args.whole.now c.args.pairs.now.narrowed.items c.args.pair.now) c.args.whole.now c.args.pairs.now.narrowed.items c.args.seen.now
    (gives_equal g.row.N c.args.node c.args.store.now c.args.pattern.now (equations_in c.args.whole.now c.args.pairs.now) (equation_of c.args.whole.now c.args.pairs.now.narrowed.items c.args.pair.now) (compared_at g.row.N c.args.store.now c.context-within.result.now _ c.args.pair.now.left c.args.pair.now.right c.in-Ok.found found.Equal c.context-within.ensures c.in-Equal.is c.in-Ok.ensures)) c.requires.carried

pub returns-in_ok-mask-in-Differ-clause-carried : goal.returns-in_ok-mask-in-Differ-clause-carried
returns-in_ok-mask-in-Differ-clause-carried g c = λ none.
    carried_same g.row.N c.args.store.now c.args.pattern.now c.mask.new.self (equations_in c.args.whole.now c.args.pairs.now) (equation_of c.args.whole.now c.args.pairs.now.narrowed.items c.args.pair.now) c.args.whole.now c.args.pairs.now.narrowed.items c.args.seen.now
    (gives_killed g.row.N c.args.node c.args.store.now c.args.pattern.now (equations_in c.args.whole.now c.args.pairs.now) (equation_of c.args.whole.now c.args.pairs.now.narrowed.items c.args.pair.now) c.mask.new.self c.requires.space c.requires.alive
    (subst (λ region. IsMasked g.row.N region c.args.node c.args.pattern.now c.mask.new.self) c.context-within.ensures c.in_ok-mask-in-Differ.ensures.ok)) c.requires.carried

pub returns-then-not-added-clause-turn : goal.returns-then-not-added-clause-turn
returns-then-not-added-clause-turn g c =
    let old : c.in_ok-added-in-Parts.added ≡ false = search rules in
    turn_skipped g.row.N c.args.node c.args.store.now c.args.pattern.now (equation_of c.args.whole.now c.args.pairs.now.narrowed.items c.args.pair.now) (equations_in c.args.whole.now c.args.pairs.now) c.requires.posed (c.requires.carried c.args.pair.now (c.in_ok-added-in-Parts.ensures.known old)).1

pub returns-then-not-added-clause-carried : goal.returns-then-not-added-clause-carried
returns-then-not-added-clause-carried g c = λ none.
    let old : c.in_ok-added-in-Parts.added ≡ false = search rules in
    let remembered = c.in_ok-added-in-Parts.ensures.known old in
    let same =
    carried_same g.row.N c.args.store.now c.args.pattern.now c.args.pattern.now (equations_in c.args.whole.now c.args.pairs.now) (equation_of c.args.whole.now c.args.pairs.now.narrowed.items c.args.pair.now) c.args.whole.now c.args.pairs.now.narrowed.items c.args.seen.now
    (gives_skipped g.row.N c.args.node c.args.store.now c.args.pattern.now (equations_in c.args.whole.now c.args.pairs.now) (equation_of c.args.whole.now c.args.pairs.now.narrowed.items c.args.pair.now) (c.requires.carried c.args.pair.now remembered).1) c.requires.carried
    in
    carried_more g.row.N c.args.store.now c.args.pattern.now c.args.whole.now c.args.pairs.now.narrowed.items (equations_in c.args.whole.now c.args.pairs.now) c.args.seen.now c.insert.new.self c.args.pair.now c.in_ok-added-in-Parts.ensures.only same (same c.args.pair.now remembered)

pub returns-in_ok-push_parts-in-Parts-clause-carried : goal.returns-in_ok-push_parts-in-Parts-clause-carried
returns-in_ok-push_parts-in-Parts-clause-carried g c = λ none.
    let made =
    (compared_at g.row.N c.args.store.now c.context-within.result.now _ c.args.pair.now.left c.args.pair.now.right c.in-Ok.found (found.Parts c.in-Parts.lefts c.in-Parts.rights) c.context-within.ensures c.in-Parts.is
    c.in-Ok.ensures)
    in
    carried_parts g.row.N c.args.store.now c.args.pattern.now (equations_in c.args.whole.now c.args.pairs.now) c.args.whole.now c.args.pairs.now.narrowed.items c.push_parts.new.pairs.narrowed.items (equations_in c.args.whole.now c.push_parts.new.pairs) c.args.seen.now c.insert.new.self
    c.args.pair.now c.in-Parts.lefts.now c.in-Parts.rights.now c.requires.posed c.acyclic.ensures.acyclic c.acyclic.ensures.arities made
    (parts_more c.args.whole.now c.args.pairs.now.narrowed.items c.push_parts.new.pairs.narrowed.items c.args.pair.now.context c.in-Parts.lefts.now c.in-Parts.rights.now c.args.pairs.now.list.items
    c.push_parts.new.pairs.list.items c.in_ok-push_parts-in-Parts.ensures.narrowed c.in_ok-push_parts-in-Parts.ensures.list) c.in_ok-push_parts-in-Parts.ensures.narrowed c.requires.pair_known c.in_ok-added-in-Parts.ensures.only c.requires.carried
