use Rattle.std.proofs.Common.{[], ◌∷◌, ◌++◌, ap, subst, sym, ◌∙◌, rules}
use Rattle.std.specs.Option.{option_map}
use Rattle.vt_unify.specs.Turns.{IsTurn}
use Rattle.vt_unify.specs.Pairs.{equation_of, equations_in, equations_of_pairs}
use Rattle.vt_unify.proofs.Resolving.{last_taken, rest_known, none_taken}
use Rattle.vt_unify.proofs.Carrying.{carried_popped}
use Rattle.vt_unify.proofs.Turning.{worked_none, inside_none, falls_none, worked_some, worked_out, is_some-mapped, no_option, last_posed}
use Rattle.vt_unify.proofs.next_binding.next_binding.Goals as goal

pub turn-requires : goal.turn-requires
turn-requires g c =
    let known = rest_known c.args.whole.now c.loop-pair.pairs.narrowed.items c.pop.new.self.narrowed.items c.loop-pair.pairs.list.items c.pop.new.self.list.items c.in-Some.pair c.in-Some.ensures.narrowed c.in-Some.ensures.list c.loop-pair.invariant.known in
    let taken = last_taken c.args.whole.now c.loop-pair.pairs.narrowed.items c.pop.new.self.narrowed.items c.loop-pair.pairs.list.items c.pop.new.self.list.items c.in-Some.pair c.in-Some.ensures.narrowed c.in-Some.ensures.list in
    let carried =
    carried_popped g.row.N c.args.store.now c.loop-pair.pattern c.args.whole.now c.loop-pair.pairs.narrowed.items c.pop.new.self.narrowed.items (equations_in c.args.whole.now c.loop-pair.pairs)
    (equations_in c.args.whole.now c.pop.new.self ++ equation_of c.args.whole.now c.pop.new.self.narrowed.items c.in-Some.pair ∷ []) c.loop-pair.seen taken c.in-Some.ensures.narrowed c.loop-pair.invariant.carried
    in
    (search rules, (search rules, (search rules, (search rules, (known.0, (known.1, (last_posed g.row.N c.args.store.now _ _ _ taken c.loop-pair.invariant.posed, (c.loop-pair.invariant.space ∙ c.requires.space, carried))))))))

pub returns-then-is_some-clause-worked : goal.returns-then-is_some-clause-worked
returns-then-is_some-clause-worked g c =
    let taken = last_taken c.args.whole.now c.loop-pair.pairs.narrowed.items c.pop.new.self.narrowed.items c.loop-pair.pairs.list.items c.pop.new.self.list.items c.in-Some.pair c.in-Some.ensures.narrowed c.in-Some.ensures.list in
    worked_some g.row.N c.args.node c.args.store.now c.acyclic.ensures.acyclic c.args.pattern.now c.loop-pair.pattern c.turn.new.pattern (equations_in c.args.whole.now c.args.pairs.now) (equations_in c.args.whole.now c.loop-pair.pairs) (equations_in c.args.whole.now c.pop.new.self) (equations_in c.args.whole.now c.turn.new.pairs) (equation_of c.args.whole.now c.pop.new.self.narrowed.items c.in-Some.pair) taken
    (option_map (equation_of c.args.whole.now c.turn.new.pairs.narrowed.items) c.in_ok-found.found) (is_some-mapped (equation_of c.args.whole.now c.turn.new.pairs.narrowed.items) c.in_ok-found.found (sym c.is_some.ensures ∙ c.if-is_some.true))
    c.loop-pair.invariant.space c.loop-pair.invariant.turned c.loop-pair.invariant.posed c.loop-pair.invariant.inside c.in_ok-found.ensures.turn

pub loop-pair-smaller : goal.loop-pair-smaller
loop-pair-smaller g c =
    let taken = last_taken c.args.whole.now c.loop-pair.pairs.narrowed.items c.pop.new.self.narrowed.items c.loop-pair.pairs.list.items c.pop.new.self.list.items c.in-Some.pair c.in-Some.ensures.narrowed c.in-Some.ensures.list in
    let turn =
    subst (λ found. IsTurn g.row.N c.args.node c.args.store.now c.loop-pair.pattern c.turn.new.pattern (equation_of c.args.whole.now c.pop.new.self.narrowed.items c.in-Some.pair) (equations_in c.args.whole.now c.pop.new.self)
    (equations_in c.args.whole.now c.turn.new.pairs) (option_map (equation_of c.args.whole.now c.turn.new.pairs.narrowed.items) found)) (no_option c.in_ok-found.found (sym c.is_some.ensures ∙ c.if-is_some.false)) c.in_ok-found.ensures.turn
    in
    falls_none g.row.N c.args.node c.args.store.now c.acyclic.ensures.acyclic c.args.pattern.now c.loop-pair.pattern c.turn.new.pattern (equations_in c.args.whole.now c.args.pairs.now) (equations_in c.args.whole.now c.loop-pair.pairs) (equations_in c.args.whole.now c.pop.new.self) (equations_in c.args.whole.now c.turn.new.pairs) (equation_of c.args.whole.now c.pop.new.self.narrowed.items c.in-Some.pair) taken c.loop-pair.invariant.posed turn

pub loop-pair-preserved : goal.loop-pair-preserved
loop-pair-preserved g c =
    let taken = last_taken c.args.whole.now c.loop-pair.pairs.narrowed.items c.pop.new.self.narrowed.items c.loop-pair.pairs.list.items c.pop.new.self.list.items c.in-Some.pair c.in-Some.ensures.narrowed c.in-Some.ensures.list in
    let turn =
    subst (λ found. IsTurn g.row.N c.args.node c.args.store.now c.loop-pair.pattern c.turn.new.pattern (equation_of c.args.whole.now c.pop.new.self.narrowed.items c.in-Some.pair) (equations_in c.args.whole.now c.pop.new.self)
    (equations_in c.args.whole.now c.turn.new.pairs) (option_map (equation_of c.args.whole.now c.turn.new.pairs.narrowed.items) found)) (no_option c.in_ok-found.found (sym c.is_some.ensures ∙ c.if-is_some.false)) c.in_ok-found.ensures.turn
    in
    let worked = worked_none g.row.N c.args.node c.args.store.now c.acyclic.ensures.acyclic c.args.pattern.now c.loop-pair.pattern c.turn.new.pattern (equations_in c.args.whole.now c.args.pairs.now) (equations_in c.args.whole.now c.loop-pair.pairs) (equations_in c.args.whole.now c.pop.new.self) (equations_in c.args.whole.now c.turn.new.pairs) (equation_of c.args.whole.now c.pop.new.self.narrowed.items c.in-Some.pair) taken c.loop-pair.invariant.turned c.loop-pair.invariant.posed turn in
    record {
      turned = worked.0;
      posed = worked.1;
      inside = λ region all. inside_none g.row.N c.args.node c.args.store.now c.acyclic.ensures.acyclic c.args.pattern.now c.loop-pair.pattern c.turn.new.pattern (equations_in c.args.whole.now c.args.pairs.now) (equations_in c.args.whole.now c.loop-pair.pairs) (equations_in c.args.whole.now c.pop.new.self) (equations_in c.args.whole.now c.turn.new.pairs) (equation_of c.args.whole.now c.pop.new.self.narrowed.items c.in-Some.pair) taken region (c.loop-pair.invariant.inside region all) turn;
      known = c.in_ok-found.ensures.known.0;
      carried = c.in_ok-found.ensures.carried (no_option c.in_ok-found.found (sym c.is_some.ensures ∙ c.if-is_some.false));
      space = turn.1 ∙ c.loop-pair.invariant.space;
    }

pub returns-clause-worked : goal.returns-clause-worked
returns-clause-worked g c =
    let none = none_taken c.args.whole.now c.loop-pair.pairs.narrowed.items c.pop.new.self.narrowed.items c.loop-pair.pairs.list.items c.pop.new.self.list.items c.in_default.ensures.narrowed c.in_default.ensures.list in
    worked_out g.row.N c.args.node c.args.store.now c.args.pattern.now c.loop-pair.pattern (equations_in c.args.whole.now c.args.pairs.now) (equations_in c.args.whole.now c.loop-pair.pairs) (equations_in c.args.whole.now c.pop.new.self) none
    (ap (equations_of_pairs c.args.whole.now c.pop.new.self.narrowed.items) c.in_default.ensures.empty) c.loop-pair.invariant.space c.loop-pair.invariant.turned c.loop-pair.invariant.posed c.loop-pair.invariant.inside
