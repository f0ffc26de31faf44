use Rattle.std.proofs.Common.{rules}
use Rattle.vt_trials_types.proofs.AllLeft.{all_left_of}
use Rattle.vt_trials_types.proofs.inference.is_alive.Goals as goal

pub fate-requires : goal.fate-requires
fate-requires c = (search rules, (search rules, all_left_of 1 c.args.pattern.now.space c.all_left-left.result c.requires c.all_left-left.ensures))
