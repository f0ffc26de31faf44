use Rattle.std.proofs.Common.{refl, lit<, rules}
use Rattle.vt_unify.proofs.WalkReaches.{Searching-first, Searching-never, Searching-more, Searching-fewer, reached-way, here}
use Rattle.vt_unify.proofs.reaches.reaches.Goals as goal

pub cells-init : goal.cells-init
cells-init g c = Searching-first g.row.N c.args.store.now c.args.within.now c.args.outer c.args.inner c.new-search.result c.see.new.self c.requires.outer c.new-search.ensures.pending c.new-search.ensures.seen c.in_ok-see.ensures

pub returns-then-eq : goal.returns-then-eq
returns-then-eq g c =
    rw c.reached.ensures
    (reached-way g.row.N c.args.store.now c.args.within.now c.args.outer c.args.inner _ c.pop.new.self.items _ c.in-Some.visit.cell c.in-Some.visit.split c.in-Some.ensures.items c.cells.invariant
    (search rules))

pub splits-requires : goal.splits-requires
splits-requires g c =
    (lit< tt, (search rules, ((here g.row.N c.args.store.now c.args.within.now c.args.outer c.args.inner _ c.pop.new.self.items _ c.in-Some.visit.cell c.in-Some.visit.split c.in-Some.ensures.items c.cells.invariant).0, c.requires.space)))

pub named-requires : goal.named-requires
named-requires g c =
    (lit< tt, (search rules, ((here g.row.N c.args.store.now c.args.within.now c.args.outer c.args.inner _ c.pop.new.self.items _ c.in-Some.visit.cell c.in-Some.visit.split c.in-Some.ensures.items c.cells.invariant).0, c.requires.space)))

pub cells-smaller : goal.cells-smaller
cells-smaller g c =
    Searching-fewer g.row.N c.args.store.now c.args.within.now c.args.outer c.args.inner _ c.pop.new.self.items _ c.in-Some.visit.cell c.in-Some.visit.split c.in-Some.ensures.items c.cells.invariant
    c.space-sized.ensures.sized c.requires.space c.acyclic.ensures.acyclic _ (c.in_ok-named.ensures) c.splits.result c.splits.ensures.both c.splits.ensures.alike
    _ c.see-in-Some.new.self refl refl (search rules) c.or-split.result c.or-split.ensures (rw c.deref.ensures.value at c.in_ok-see-2.ensures)

pub cells-preserved : goal.cells-preserved
cells-preserved g c =
    Searching-more g.row.N c.args.store.now c.args.within.now c.args.outer c.args.inner _ c.pop.new.self.items _ c.in-Some.visit.cell c.in-Some.visit.split c.in-Some.ensures.items c.cells.invariant
    c.space-sized.ensures.sized c.requires.space c.acyclic.ensures.acyclic _ (c.in_ok-named.ensures) c.splits.result c.splits.ensures.both c.splits.ensures.alike
    _ c.see-in-Some.new.self refl refl (search rules) c.or-split.result c.or-split.ensures (rw c.deref.ensures.value at c.in_ok-see-2.ensures)

pub returns : goal.returns
returns g c = Searching-never g.row.N c.args.store.now c.args.within.now c.args.outer c.args.inner _ _ (search rules) c.cells.invariant
