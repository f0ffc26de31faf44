use Rattle.std.proofs.Common.{◌∙◌}
use Rattle.vt_infer.proofs.SchemeLists.{moved_one}
use Rattle.vt_infer.proofs.environment.move_schemes.Goals as goal

pub loop-entry-preserved : goal.loop-entry-preserved
loop-entry-preserved g c = moved_one _ _ _ _ _ c.in-Some.ensures.items c.in_ok-push_scheme.ensures ∙ c.loop-entry.invariant
