use Rattle.std.proofs.Common.{lit<, rules}
use Rattle.vt_unify.proofs.Admitted.{IsOf-in}
use Rattle.vt_unify.proofs.compare.made.Goals as goal

pub end-requires : goal.end-requires
end-requires g c = (lit< tt, (search rules, (c.requires.root.within, IsOf-in g.row.N _ c.args.within.now c.least-least.result c.space-sized.ensures.sized c.requires.space c.least-least.ensures.least.admitted)))
