use Rattle.std.proofs.lemmas.Result.{on_ok_weaker}
use Rattle.vt_norm.proofs.Deciding.{some-agrees}
use Rattle.vt_norm.proofs.Soles.{itself, soles-know, leads-agreed}
use Rattle.vt_norm.proofs.sole.settle.Goals as goal

pub returns-then-next-clause-known : goal.returns-then-next-clause-known
returns-then-next-clause-known c =
    let linked = rw c.in-Some.is at c.in_ok-cells.ensures in
    let least = some-agrees c.args.part.now in
    on_ok_weaker c.know-then-next.result
    (soles-know c.args.store.now c.args.part.now c.args.known.now c.know-then-next.new.known c.args.next.cell c.agreed-last.result c.requires.known
    (leads-agreed c.args.store.now c.args.part.now least.0 least.1 c.args.known.now c.args.next.cell c.agreed-last.result c.in-Some.cells.items c.requires.cell c.requires.known linked (rw c.deref.ensures.value at c.agreed-last.ensures)))
    c.know-then-next.ensures

pub returns-clause-known : goal.returns-clause-known
returns-clause-known c =
    on_ok_weaker c.know-2.result
    (soles-know c.args.store.now c.args.part.now c.args.known.now c.know-2.new.known c.args.next.cell c.args.next.cell c.requires.known (itself c.args.store.now c.args.part.now c.args.next.cell c.requires.cell))
    c.know-2.ensures
