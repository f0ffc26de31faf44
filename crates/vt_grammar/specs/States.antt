use Rattle.std.specs.Prelude.{◌≡◌, ℕ, ◌≤◌, List, Some}
use Rattle.vt_lex.specs.declared.token.Token.{Token}
use Rattle.vt_syntax.specs.Spelling.{most_depth}
use Rattle.vt_grammar.specs.Machine.{State, initial, run, need}

-- The tokens have been read, and some program that begins with them is admitted.
pub record IsAfter (text : List ℕ) (tokens : List Token) (s : State) : Type 0 where
  pub runs : run text initial tokens ≡ Some s
  pub admitted : need s ≤ most_depth
