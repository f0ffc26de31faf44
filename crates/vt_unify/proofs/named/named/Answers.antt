use Rattle.std.proofs.Common.{lit<, rules}
use Rattle.vt_unify.proofs.WalkNamed.{IsOf-sample, AreNamed-all}
use Rattle.vt_unify.proofs.named.named.Goals as goal

pub end-requires : goal.end-requires
end-requires g c =
    let known = c.in_ok-found.ensures in
    (lit< tt, (search rules, (c.requires.cell, IsOf-sample c.args.store.now c.args.within.now c.args.cell _ known _ c.deref-sample-items.ensures.value g.row.N _ _ c.space-space.ensures.sized c.requires.space c.loop-sample-test.true c.sample-item.is)))

pub returns : goal.returns
returns g c = AreNamed-all c.args.store.now c.args.within.now c.args.cell _ c.in_ok-found.ensures _ c.deref-sample-items.ensures.value c.loop-sample.sample-index c.loop-sample.cells.items c.loop-sample-test.false c.loop-sample.invariant
