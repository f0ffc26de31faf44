use Rattle.std.proofs.Common.{◌≡◌, ◌+◌, drop}
use Rattle.vt_lex.specs.Lexing.{byte_count}
use Rattle.vt_lex.proofs.lexer.byte_count.Given as goal

-- the bytes so far, and those that are left
abbrev pub invariant-loop-c : goal.invariant-loop-c
invariant-loop-c l = l.count + byte_count (drop l.c-index l.text) ≡ byte_count l.text
