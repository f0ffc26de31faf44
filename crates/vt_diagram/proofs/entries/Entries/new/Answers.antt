use Rattle.std.proofs.Common.{◌*◌}
use Rattle.vt_diagram.proofs.Entering.{new_is}
use Rattle.vt_diagram.proofs.entries.Entries.new.Goals as goal

pub invariant_of-result : goal.invariant_of-result
invariant_of-result g c = new_is (64 * g.row.N) c.new-2.result c.new-2.ensures.empty _ _ c.new.ensures.items c.new-3.ensures.items
