use Rattle.vt_infer.proofs.MonoCells.{mono_cells-fewer}
use Rattle.vt_infer.proofs.environment.Environment.pop.Goals as goal

pub invariant_of-self-2 : goal.invariant_of-self-2
invariant_of-self-2 g c =
    mono_cells-fewer c.in_ok-entry.entry c.self.inside.entries.items c.pop_front.new.self.items c.self.inside.monos.items c.pop_mono.new.monos.items c.in_ok-entry.ensures.items c.self.invariant c.pop_mono.ensures
