use Rattle.std.proofs.Common.{subst}
use Rattle.vt_unify.specs.declared.life.Life.TheVariants as life
use Rattle.vt_unify.specs.Turns.{IsLifeOf}
use Rattle.vt_unify.specs.Walks.{CanSplit}
use Rattle.vt_unify.specs.Pairs.{equation_of, equations_in}
use Rattle.vt_unify.proofs.Resolving.{stable-more}
use Rattle.vt_unify.proofs.Carrying.{gives_dead, carried_same, carried_split}
use Rattle.vt_unify.proofs.Turning.{turn_split, turn_dead}
use Rattle.vt_unify.proofs.next_binding.turn.Goals as goal

pub returns-in_ok-push_halves-in-Split-clause-turn : goal.returns-in_ok-push_halves-in-Split-clause-turn
returns-in_ok-push_halves-in-Split-clause-turn g c =
    turn_split g.row.N c.args.node c.args.store.now c.args.pattern.now (equation_of c.args.whole.now c.args.pairs.now.narrowed.items c.args.pair.now) (equations_in c.args.whole.now c.args.pairs.now) c.requires.posed
    c.in-Split.dim (equations_in c.args.whole.now c.push_halves.new.pairs) (subst (λ region. CanSplit g.row.N region c.in-Split.dim) c.context.ensures c.in-Split.ensures) c.in_ok-push_halves-in-Split.ensures.split

pub returns-in-Dead-clause-turn : goal.returns-in-Dead-clause-turn
returns-in-Dead-clause-turn g c =
    turn_dead g.row.N c.args.node c.args.store.now c.args.pattern.now (equation_of c.args.whole.now c.args.pairs.now.narrowed.items c.args.pair.now) (equations_in c.args.whole.now c.args.pairs.now) c.requires.posed
    (subst (λ region. IsLifeOf g.row.N c.args.pattern.now region life.Dead) c.context.ensures c.in-Dead.ensures)

pub returns-in_ok-push_halves-in-Split-clause-carried : goal.returns-in_ok-push_halves-in-Split-clause-carried
returns-in_ok-push_halves-in-Split-clause-carried g c = λ none.
    carried_split g.row.N c.args.node c.args.store.now c.args.pattern.now (equations_in c.args.whole.now c.args.pairs.now) (equation_of c.args.whole.now c.args.pairs.now.narrowed.items c.args.pair.now) c.args.whole.now c.args.pairs.now.narrowed.items c.push_halves.new.pairs.narrowed.items (equations_in c.args.whole.now c.push_halves.new.pairs) c.args.seen.now c.in-Split.dim
    (subst (λ region. CanSplit g.row.N region c.in-Split.dim) c.context.ensures c.in-Split.ensures) c.in_ok-push_halves-in-Split.ensures.split
    (stable-more c.args.whole.now c.args.pairs.now.narrowed.items c.push_halves.new.pairs.narrowed.items c.in_ok-push_halves-in-Split.ensures.grows) c.requires.carried

pub returns-in-Dead-clause-carried : goal.returns-in-Dead-clause-carried
returns-in-Dead-clause-carried g c = λ none.
    carried_same g.row.N c.args.store.now c.args.pattern.now c.args.pattern.now (equations_in c.args.whole.now c.args.pairs.now) (equation_of c.args.whole.now c.args.pairs.now.narrowed.items c.args.pair.now) c.args.whole.now c.args.pairs.now.narrowed.items c.args.seen.now
    (gives_dead g.row.N c.args.node c.args.store.now c.args.pattern.now (equations_in c.args.whole.now c.args.pairs.now) (equation_of c.args.whole.now c.args.pairs.now.narrowed.items c.args.pair.now) (subst (λ region. IsLifeOf g.row.N c.args.pattern.now region life.Dead) c.context.ensures c.in-Dead.ensures)) c.requires.carried
