use Rattle.std.proofs.Common.{sym}
use Rattle.vt_unify.proofs.Comparing.{contained_differs}
use Rattle.vt_unify.proofs.compare.compare_open.Goals as goal

pub returns-in-Yes-clause-found : goal.returns-in-Yes-clause-found
returns-in-Yes-clause-found g c = λ d admits s solves same.
    contained_differs g.row.N c.args.store.now c.args.within.now c.args.other c.args.cell c.in_ok-dim.field-0 c.space-sized.ensures.sized c.requires.space c.acyclic.ensures.acyclic c.in-Yes.is c.in_ok-dim.ensures
    c.requires.other c.requires.differ d admits s solves (sym same)

pub returns-in-Yes-clause-turned_round : goal.returns-in-Yes-clause-turned_round
returns-in-Yes-clause-turned_round g c =
    contained_differs g.row.N c.args.store.now c.args.within.now c.args.other c.args.cell c.in_ok-dim.field-0 c.space-sized.ensures.sized c.requires.space c.acyclic.ensures.acyclic c.in-Yes.is c.in_ok-dim.ensures
    c.requires.other c.requires.differ
