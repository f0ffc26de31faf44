use Rattle.std.proofs.Common.{suc, arith}
use Rattle.vt_rules.proofs.UpTo.{up_to-smaller}
use Rattle.vt_rules.proofs.laws.up_to_next_is_up_to.Goals as goal

pub returns : goal.returns
returns c K table k env e type h d = up_to-smaller K table k (suc k) (omega arith) env e type d h
