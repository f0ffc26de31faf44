use Rattle.std.proofs.Common.{◌≡◌, ◌+◌, false, drop}
use Rattle.std.specs.Option.{option_map}
use Rattle.vt_lex.specs.Reading.{string_length}
use Rattle.vt_lex.proofs.pieces.string_length.Given as goal

-- so far no quote closes the string
abbrev pub invariant-loop-i : goal.invariant-loop-i
invariant-loop-i l = option_map (λ count. l.i + count) (string_length l.escaped (drop l.i l.text)) ≡ string_length false l.text
