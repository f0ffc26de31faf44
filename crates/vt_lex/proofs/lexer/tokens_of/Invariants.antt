use Rattle.std.proofs.Common.{◌≡◌, ◌+◌, List, ◌++◌, length}
use Rattle.vt_lex.specs.declared.token.Token.{Token}
use Rattle.vt_lex.specs.declared.fault.LexFault.{LexFault}
use Rattle.vt_lex.specs.Lexing.{byte_count, Lexes, Misses}
use Rattle.vt_lex.proofs.lexer.tokens_of.Given as goal

-- what is read of the rest goes after what was read so far
abbrev pub invariant-loop-tokens : goal.invariant-loop-tokens
invariant-loop-tokens l = record {
  lexes : (tokens : List Token) → Lexes l.at l.rest tokens → Lexes 0 l.text (l.tokens.items ++ tokens);
  misses : (fault : LexFault) → Misses l.at l.rest fault → Misses 0 l.text fault;
  places : l.at + byte_count l.rest ≡ byte_count l.text;
}

abbrev pub decreases-loop-tokens : goal.decreases-loop-tokens
decreases-loop-tokens l = length l.rest
