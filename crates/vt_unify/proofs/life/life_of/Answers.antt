use Rattle.vt_unify.proofs.Admitted.{IsOf-in}
use Rattle.vt_unify.proofs.life.life_of.Goals as goal
use Rattle.std.proofs.Common.{lit<, rules}

pub fate-requires : goal.fate-requires
fate-requires g c = (lit< tt, (search rules, IsOf-in g.row.N _ c.args.within.now c.least.result c.space-sized.ensures.sized c.requires c.least.ensures.least.admitted))
