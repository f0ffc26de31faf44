use Rattle.std.proofs.Common.{◌≡◌, map, take}
use Rattle.vt_type.specs.Constants.{core_constants}
use Rattle.vt_type.specs.Entries.{constant_of}
use Rattle.vt_type.proofs.constants.Constants.core.Given as goal

abbrev pub invariant-loop-number : goal.invariant-loop-number
invariant-loop-number l = map constant_of l.entries.items ≡ take l.number core_constants
