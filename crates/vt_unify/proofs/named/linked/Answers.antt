use Rattle.std.proofs.Common.{lit<, rules}
use Rattle.vt_unify.proofs.WalkNamed.{IsOf-sample, linked-more, AreLinked-all}
use Rattle.vt_unify.proofs.named.linked.Goals as goal

pub end-requires : goal.end-requires
end-requires g c =
    let known = rw c.in-Some.is at c.in_ok-found.ensures in
    (lit< tt, (search rules, (c.requires.cell, IsOf-sample c.args.store.now c.args.within.now c.args.cell _ known _ c.deref-sample-items.ensures.value g.row.N _ _ c.space-space.ensures.sized c.requires.space c.loop-sample-test.true c.sample-item.is)))

pub loop-sample-preserved : goal.loop-sample-preserved
loop-sample-preserved g c =
    let known = rw c.in-Some.is at c.in_ok-found.ensures in
    rw c.in_ok-push-in-Link.ensures.items
    (linked-more c.args.store.now c.args.within.now c.args.cell _ known _ c.deref-sample-items.ensures.value c.loop-sample.sample-index c.loop-sample.cells.items c.sample-item.result c.in-Link.next
    c.loop-sample-test.true c.sample-item.is c.in-Link.ensures c.loop-sample.invariant)

pub returns : goal.returns
returns g c =
    let known = rw c.in-Some.is at c.in_ok-found.ensures in
    AreLinked-all c.args.store.now c.args.within.now c.args.cell _ known _ c.deref-sample-items.ensures.value c.loop-sample.sample-index c.loop-sample.cells.items c.loop-sample-test.false c.loop-sample.invariant
