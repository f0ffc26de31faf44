use Rattle.std.proofs.Common.{◌≡◌, ◌++◌, length}
use Rattle.vt_infer.specs.Environments.{schemes_of}
use Rattle.vt_infer.proofs.environment.move_schemes.Given as goal

-- the schemes so far, with those of the entries that are left
abbrev pub invariant-loop-entry : goal.invariant-loop-entry
invariant-loop-entry g l = l.schemes.items ++ schemes_of l.entries.items ≡ l.fn.schemes.items ++ schemes_of l.fn.entries.items

abbrev pub decreases-loop-entry : goal.decreases-loop-entry
decreases-loop-entry g l = length l.entries.items
