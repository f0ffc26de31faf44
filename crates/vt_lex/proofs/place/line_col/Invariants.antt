use Rattle.std.proofs.Common.{◌≡◌}
use Rattle.vt_lex.specs.declared.place.LineCol.{LineCol}
use Rattle.vt_lex.specs.Places.{place_after}
use Rattle.vt_lex.proofs.place.line_col.Given as goal

-- the place after the characters so far
abbrev pub invariant-loop-c : goal.invariant-loop-c
invariant-loop-c l = let place : LineCol = record { line = l.line; column = l.column } in place ≡ place_after l.yielded
