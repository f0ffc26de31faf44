use Rattle.std.proofs.Common.{◌≡◌, lit<, rules}
use Rattle.vt_unify.specs.Comparisons.{IsComparison}
use Rattle.vt_unify.proofs.Comparing.{one_root, through_roots, root-itself, end-itself, IsRootOf-at}
use Rattle.vt_store.proofs.Writing.{if_ok}
use Rattle.vt_unify.proofs.compare.compare.Goals as goal

pub returns-then-eq : goal.returns-then-eq
returns-then-eq g c =
    let same : c.in-At.one ≡ c.in-At-2.other = search rules in
    one_root g.row.N c.args.store.now c.args.within.now c.args.left c.args.right c.in-At.one c.in-At-2.other c.requires.left c.requires.right c.space-sized.ensures.sized c.requires.space c.acyclic.ensures.acyclic
    (IsRootOf-at g.row.N _ _ _ _ _ c.in-At.is c.in_ok-dim.ensures) (IsRootOf-at g.row.N _ _ _ _ _ c.in-At-2.is c.in_ok-dim-2.ensures) same

pub compare_roots-requires : goal.compare_roots-requires
compare_roots-requires g c =
    let root = IsRootOf-at g.row.N _ _ _ _ _ c.in-At.is c.in_ok-dim.ensures in
    let end = IsRootOf-at g.row.N _ _ _ _ _ c.in-At-2.is c.in_ok-dim-2.ensures in
    let itself =
    root-itself g.row.N c.args.store.now c.args.within.now c.args.left c.args.right c.in-At.one c.in-At-2.other c.requires.left c.requires.right c.space-sized.ensures.sized c.requires.space c.acyclic.ensures.acyclic root end
    in
    let own =
    end-itself g.row.N c.args.store.now c.args.within.now c.args.left c.args.right c.in-At.one c.in-At-2.other c.requires.left c.requires.right c.space-sized.ensures.sized c.requires.space c.acyclic.ensures.acyclic root end
    in
    (lit< tt, (search rules, (itself, (own, (search rules, c.requires.space)))))

pub returns : goal.returns
returns g c =
    if_ok _ (IsComparison g.row.N c.args.store.now c.args.within.now c.args.left c.args.right) c.compare_roots.result
    (through_roots g.row.N c.args.store.now c.args.within.now c.args.left c.args.right c.in-At.one c.in-At-2.other c.requires.left c.requires.right c.space-sized.ensures.sized c.requires.space c.acyclic.ensures.acyclic
    (IsRootOf-at g.row.N _ _ _ _ _ c.in-At.is c.in_ok-dim.ensures) (IsRootOf-at g.row.N _ _ _ _ _ c.in-At-2.is c.in_ok-dim-2.ensures)) c.compare_roots.ensures
