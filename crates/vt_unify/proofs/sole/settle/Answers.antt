use Rattle.std.proofs.Common.{◌<◌}
use Rattle.std.specs.List.{All}
use Rattle.std.proofs.lemmas.List.Elements.{All-push}
use Rattle.std.proofs.lemmas.Result.{on_ok_weaker}
use Rattle.vt_store.specs.Stores.{cell_count}
use Rattle.vt_store.specs.Views.{arrived}
use Rattle.vt_unify.specs.declared.sole.Visit.{Visit}
use Rattle.vt_unify.proofs.WalkSoles.{AreSoles-know, LeadsTo-agreed, All-linked}
use Rattle.vt_unify.proofs.sole.settle.Goals as goal

pub returns-in_default-clause-known : goal.returns-in_default-clause-known
returns-in_default-clause-known g c =
    on_ok_weaker c.know.result
    (AreSoles-know c.args.store.now c.args.within.now c.args.known.now c.know.new.known c.args.next.cell c.args.next.cell c.requires.known (λ d h. arrived c.args.next.cell)) c.know.ensures

pub returns-then-next-clause-known : goal.returns-then-next-clause-known
returns-then-next-clause-known g c =
    let linked = rw c.in-Some.is at c.in_ok-cells.ensures in
    on_ok_weaker c.know-then-next.result
    (AreSoles-know c.args.store.now c.args.within.now c.args.known.now c.know-then-next.new.known c.args.next.cell c.agreed-last.result c.requires.known
    (LeadsTo-agreed c.args.store.now c.args.within.now c.args.known.now c.args.next.cell c.agreed-last.result c.in-Some.cells.items c.requires.known linked (rw c.deref.ensures.value at c.agreed-last.ensures)))
    c.know-then-next.ensures

pub returns-clause-known : goal.returns-clause-known
returns-clause-known g c =
    on_ok_weaker c.know-2.result
    (AreSoles-know c.args.store.now c.args.within.now c.args.known.now c.know-2.new.known c.args.next.cell c.args.next.cell c.requires.known (λ d h. arrived c.args.next.cell)) c.know-2.ensures

pub returns-clause-pending : goal.returns-clause-pending
returns-clause-pending g c =
    let linked = rw c.in-Some.is at c.in_ok-cells.ensures in
    let below =
    All-linked g.row.N c.args.store.now c.args.within.now c.space-sized.ensures.sized c.requires.space c.acyclic.ensures.acyclic c.args.next.cell c.in-Some.cells.items c.requires.cell linked
    in
    let P : Visit → Type 0 = λ own. own.cell < cell_count c.args.store.now in
    let pushed : All P c.push.new.self.items = rw c.in_ok-push.ensures.items (All-push P c.args.pending.now.items _ c.requires.pending c.requires.cell) in
    on_ok_weaker c.know-2.result (λ updates. c.in_ok-put.ensures (cell_count c.args.store.now) pushed (rw c.deref-2.ensures.value below)) c.know-2.ensures
