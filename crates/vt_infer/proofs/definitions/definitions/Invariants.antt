use Rattle.vt_infer.specs.Gathering.{AreReachedWith}
use Rattle.vt_infer.proofs.definitions.definitions.Given as goal

abbrev pub invariant-loop-def : goal.invariant-loop-def
invariant-loop-def g l = AreReachedWith g.row.N l.constants l.core l.within.space l.def-index l.work l.marks l.initial.holes.asked l.holes
