use Rattle.std.proofs.Common.{◌≡◌, ◌+◌, drop}
use Rattle.std.specs.List.{prefix_len}
use Rattle.vt_show.specs.Steps.{is_digit}
use Rattle.vt_show.proofs.reader.digits_length.Given as goal

-- so far there are only digits
abbrev pub invariant-loop-i : goal.invariant-loop-i
invariant-loop-i l = l.i + prefix_len is_digit (drop l.i l.text) ≡ prefix_len is_digit l.text
