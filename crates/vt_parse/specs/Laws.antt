use Rattle.std.specs.Prelude.{◌≡◌, ◌≢◌, ℕ, ◌≤◌, List, Result, Err}
use Rattle.vt_lex.specs.declared.token.Token.{Token}
use Rattle.vt_syntax.specs.declared.program.Program.{Program}
use Rattle.vt_syntax.specs.Spelling.{SpellsIn, Begins, BeginsAny, most_depth}
use Rattle.vt_parse.specs.declared.fault.ParseFault.{ParseFault}
use Rattle.vt_parse.specs.declared.fault.ParseFault.TheVariants.{Memory}
use Rattle.vt_parse.specs.Answer.{IsParsed}

-- What holds of the programs that tokens spell.

-- tokens spell no two programs, and none in two depths
abbrev pub HasOneProgram : Type 0
HasOneProgram = (text : List ℕ) (tokens : List Token) (one other : Program) (m n : ℕ)
    → SpellsIn text tokens one m → SpellsIn text tokens other n → (one ≡ other) × (m ≡ n)

-- tokens that spell a program and begin an admitted one spell an admitted one
abbrev pub IsAdmittedIfBegun : Type 0
IsAdmittedIfBegun = (text : List ℕ) (tokens : List Token) (program : Program) (depth : ℕ)
    → SpellsIn text tokens program depth → Begins text most_depth tokens → depth ≤ most_depth

-- of the programs that begin with these tokens, one is the least deep
abbrev pub HasLeastDepth : Type 0
HasLeastDepth = (text : List ℕ) (tokens : List Token) → BeginsAny text tokens
    → (least : ℕ) × Begins text least tokens × ((depth : ℕ) → Begins text depth tokens → least ≤ depth)

-- only one answer is right, beside that memory ran out
abbrev pub HasOneAnswer : Type 0
HasOneAnswer = (text : List ℕ) (tokens : List Token) (one other : Result Program ParseFault)
    → one ≢ Err Memory → other ≢ Err Memory
    → IsParsed text tokens one → IsParsed text tokens other → one ≡ other
