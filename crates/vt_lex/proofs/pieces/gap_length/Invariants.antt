use Rattle.std.proofs.Common.{◌≡◌, ◌+◌, false, drop}
use Rattle.vt_lex.specs.Reading.{gap_length}
use Rattle.vt_lex.proofs.pieces.gap_length.Given as goal

-- so far there is only a gap
abbrev pub invariant-loop-i : goal.invariant-loop-i
invariant-loop-i l = l.i + gap_length l.inside (drop l.i l.text) ≡ gap_length false l.text
