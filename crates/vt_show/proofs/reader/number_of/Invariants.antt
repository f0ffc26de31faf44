use Rattle.std.proofs.Common.{◌≤◌}
use Rattle.std.specs.List.{position_or_len}
use Rattle.std.specs.Str.{bytes_eq}
use Rattle.vt_show.proofs.reader.number_of.Given as goal

-- no name so far is this one
abbrev pub invariant-loop-number : goal.invariant-loop-number
invariant-loop-number l = l.number ≤ position_or_len (bytes_eq l.name) l.dims
