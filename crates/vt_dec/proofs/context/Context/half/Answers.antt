use Rattle.vt_dec.proofs.Kept.{rights_of}
use Rattle.vt_dec.proofs.Narrowing.{narrows_all, narrows_rights, some_left, held_all, held_rights, held_below}
use Rattle.vt_dec.proofs.context.Context.half.Goals as goal

pub invariant_of-result : goal.invariant_of-result
invariant_of-result g c =
    rw (c.insert.ensures.inserted, c.set.ensures)
    (held_all c.self.invariant c.args.dim c.args.side c.requires.within c.insert.ensures.low (rw c.self.view_is c.requires.either) c.in-All.is)

pub returns-in-All-clause-narrows : goal.returns-in-All-clause-narrows
returns-in-All-clause-narrows g c =
    rw (← c.self.view_is, c.insert.ensures.inserted, c.set.ensures)
    (narrows_all c.self.invariant c.args.dim c.args.side c.requires.within c.insert.ensures.low (rw c.self.view_is c.requires.either))

pub overflow_sub-left : goal.overflow_sub-left
overflow_sub-left g c =
    some_left c.self.invariant c.args.dim c.args.side c.requires.within c.insert.ensures.low (rw c.self.view_is c.requires.either) c.in_default.field-0 c.cost.result c.in_default.is c.cost.ensures

pub invariant_of-result-then-left-eq0 : goal.invariant_of-result-then-left-eq0
invariant_of-result-then-left-eq0 g c =
    rw (rights_of c.set.new.self c.least.inside.rights c.least.view_is, c.set.ensures)
    (held_rights c.self.invariant c.args.dim c.args.side c.requires.within c.insert.ensures.low (rw c.self.view_is c.requires.either)
    c.in_default.field-0 c.cost.result c.in_default.is c.cost.ensures c.if-left-eq0.true)

pub returns-then-left-eq0-clause-narrows : goal.returns-then-left-eq0-clause-narrows
returns-then-left-eq0-clause-narrows g c =
    rw (← c.self.view_is, rights_of c.set.new.self c.least.inside.rights c.least.view_is, c.set.ensures)
    (narrows_rights c.self.invariant c.args.dim c.args.side c.requires.within c.insert.ensures.low (rw c.self.view_is c.requires.either)
    c.in_default.field-0 c.cost.result c.in_default.is c.cost.ensures c.if-left-eq0.true)

pub invariant_of-result-2 : goal.invariant_of-result-2
invariant_of-result-2 g c =
    rw (c.insert.ensures.inserted, c.set.ensures)
    (held_below c.self.invariant c.args.dim c.args.side c.requires.within c.insert.ensures.low (rw c.self.view_is c.requires.either)
    c.in_default.field-0 c.cost.result c.in_default.is c.cost.ensures c.if-left-eq0.false)

pub returns-clause-narrows : goal.returns-clause-narrows
returns-clause-narrows g c =
    rw (← c.self.view_is, c.insert.ensures.inserted, c.set.ensures)
    (narrows_all c.self.invariant c.args.dim c.args.side c.requires.within c.insert.ensures.low (rw c.self.view_is c.requires.either))

pub returns-then-left-eq0-clause-kept : goal.returns-then-left-eq0-clause-kept
returns-then-left-eq0-clause-kept g c =
    rw (rights_of c.set.new.self c.least.inside.rights c.least.view_is, c.set.ensures)
    (held_rights c.self.invariant c.args.dim c.args.side c.requires.within c.insert.ensures.low (rw c.self.view_is c.requires.either)
    c.in_default.field-0 c.cost.result c.in_default.is c.cost.ensures c.if-left-eq0.true).budget

pub returns-clause-kept : goal.returns-clause-kept
returns-clause-kept g c =
    rw (c.insert.ensures.inserted, c.set.ensures)
    (held_below c.self.invariant c.args.dim c.args.side c.requires.within c.insert.ensures.low (rw c.self.view_is c.requires.either)
    c.in_default.field-0 c.cost.result c.in_default.is c.cost.ensures c.if-left-eq0.false).budget
