use Rattle.std.proofs.Common.{◌≡◌, drop}
use Rattle.vt_lex.specs.Tokens.{number_after, AreDigits}
use Rattle.vt_lex.proofs.pieces.value_of.Given as goal

-- the digits that are left, after the value so far, spell the number
abbrev pub invariant-loop-digit : goal.invariant-loop-digit
invariant-loop-digit l = (number_after l.value (drop l.digit-index l.digits) ≡ number_after 0 l.digits) × AreDigits (drop l.digit-index l.digits)
