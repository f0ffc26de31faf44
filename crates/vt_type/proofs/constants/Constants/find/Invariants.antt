use Rattle.std.proofs.Common.{ℕ, ◌<◌, map}
use Rattle.vt_type.specs.Constants.{HasName}
use Rattle.vt_type.specs.Entries.{constant_of}
use Rattle.vt_type.proofs.constants.Constants.find.Given as goal

abbrev pub invariant-loop-number : goal.invariant-loop-number
invariant-loop-number l = (id : ℕ) → id < l.number → HasName (map constant_of l.entry-items) id l.name → ⊥
