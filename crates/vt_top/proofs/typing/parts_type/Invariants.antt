use Rattle.std.proofs.Common.{ℕ, ◌<◌}
use Rattle.vt_top.specs.Parts.{IsFitting}
use Rattle.vt_top.proofs.typing.parts_type.Given as goal

-- the parts so far are fitting
abbrev pub invariant-loop-part : goal.invariant-loop-part
invariant-loop-part l = (other : ℕ) → other < l.part → IsFitting l.core other
