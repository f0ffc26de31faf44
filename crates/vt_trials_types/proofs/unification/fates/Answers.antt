use Rattle.std.proofs.Common.{lit<}
use Rattle.vt_trials_types.proofs.AllLeft.{right_of_all}
use Rattle.vt_trials_types.proofs.unification.fates.Goals as goal

pub fate-requires-2 : goal.fate-requires-2
fate-requires-2 c = (lit< tt, (lit< tt, right_of_all 1 c.in_ok-pattern.pattern.space c.right_of.result c.args.dim c.in_ok-pattern.ensures.pattern c.right_of.ensures))
