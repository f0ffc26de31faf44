use Rattle.std.specs.Prelude.{◌≡◌, ℕ, ◌≤◌, List, [], length, Option, None}
use Rattle.vt_lex.specs.declared.token.Token.{Token}
use Rattle.vt_lex.specs.Lexing.{most_bytes, AreTokensOf}
use Rattle.vt_lex.specs.Spans.{AreSpansIn}
use Rattle.vt_type.specs.Constants.{core_constants}
use Rattle.vt_type.specs.Variational.{most_dimensions}
use Rattle.vt_syntax.specs.declared.program.Program.{Program}
use Rattle.vt_syntax.specs.declared.core_program.CoreProgram.{CoreProgram}
use Rattle.vt_syntax.specs.declared.leaf.Leaf.{Leaf}
use Rattle.vt_syntax.specs.Spelling.{SpellsIn, most_depth}
use Rattle.vt_syntax.specs.Scoping.{IsClosed}
use Rattle.vt_syntax.specs.Checking.{IsInCheckingOrder}
use Rattle.vt_scope.specs.declared.fault.ScopeFault.{ScopeFault}
use Rattle.vt_scope.specs.Faults.{program_events, dims_of, first_fault}
use Rattle.vt_scope.specs.Cores.{IsCoreProgram}

-- From the bytes of a file to a program of the core.

-- The bytes are no more than a text may have, they are a text that has these tokens, and these spell the
-- program, which is not nested too deep.
pub record IsProgramOf (bytes : List ℕ) (tokens : List Token) (program : Program) : Type 0 where
  pub within : length bytes ≤ most_bytes
  pub tokens_are : AreTokensOf bytes tokens
  pub depth : ℕ
  pub spelled : SpellsIn bytes tokens program depth
  pub admitted : depth ≤ most_depth

-- what is refused first in the scope of a program, over the constants of the language
abbrev pub scope_fault : Program → Option ScopeFault
scope_fault program = first_fault [] (program_events core_constants program)

-- The bytes are read as a program, nothing in its scope is refused, and this is its core.
pub record IsCoreOf (bytes : List ℕ) (program : Program) (core : CoreProgram) : Type 0 where
  pub tokens : List Token
  pub read : IsProgramOf bytes tokens program
  pub in_scope : scope_fault program ≡ None
  pub leaves : List Leaf
  pub core_is : IsCoreProgram core_constants (dims_of program) program core leaves

-- The same with all that goes with it: the leaves of the core, the names of the dimensions by their
-- numbers, and tokens whose spans lie in the file.
pub record IsSourceOf (bytes : List ℕ) (program : Program) (core : CoreProgram) (leaves : List Leaf) (dims : List (List ℕ)) : Type 0 where
  pub tokens : List Token
  pub spans : AreSpansIn bytes tokens
  pub read : IsProgramOf bytes tokens program
  pub in_scope : scope_fault program ≡ None
  pub core_is : IsCoreProgram core_constants (dims_of program) program core leaves
  pub dims_are : dims ≡ dims_of program

-- what inference asks of a core, over so many dimensions
pub record IsTypable (core : CoreProgram) (dims : ℕ) : Type 0 where
  pub closed : IsClosed (length core_constants) dims core
  pub few : dims ≤ most_dimensions
  pub numbered : IsInCheckingOrder core
