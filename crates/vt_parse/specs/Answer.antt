use Rattle.std.specs.Prelude.{◌≡◌, ℕ, ◌+◌, ◌<◌, ◌≤◌, ◌⊎◌, List, length, take, Result, Ok, Err}
use Rattle.vt_lex.specs.declared.token.Token.{Token}
use Rattle.vt_syntax.specs.declared.program.Program.{Program}
use Rattle.vt_syntax.specs.Spelling.{SpellsIn, Begins, BeginsAny, most_depth}
use Rattle.vt_parse.specs.declared.fault.ParseFault.{ParseFault}
use Rattle.vt_parse.specs.declared.fault.ParseFault.TheVariants.{Unexpected, TooDeep, Memory}

-- What is answered of a list of tokens.

-- no program at all begins so
abbrev pub BeginsNone : List ℕ → List Token → Type 0
BeginsNone text tokens = BeginsAny text tokens → ⊥

-- the tokens spell no program
abbrev pub SpellsNone : List ℕ → List Token → Type 0
SpellsNone text tokens = (program : Program) (depth : ℕ) → SpellsIn text tokens program depth → ⊥

-- An admitted program begins with the first tokens, and none at all with this one more; or it begins with
-- all of them, and they spell none.
abbrev pub IsUnexpected : List ℕ → List Token → ℕ → Type 0
IsUnexpected text tokens k =
    Begins text most_depth (take k tokens)
    × (((k < length tokens) × BeginsNone text (take (k + 1) tokens)) ⊎ ((k ≡ length tokens) × SpellsNone text tokens))

-- An admitted program begins with the first tokens, and with this one more only programs that are not
-- admitted.
abbrev pub IsTooDeep : List ℕ → List Token → ℕ → Type 0
IsTooDeep text tokens k =
    (k < length tokens)
    × Begins text most_depth (take k tokens)
    × (Begins text most_depth (take (k + 1) tokens) → ⊥)
    × BeginsAny text (take (k + 1) tokens)

-- the program that the tokens spell, if it is admitted, and else the first token that no admitted program
-- has there
abbrev pub IsParsed : List ℕ → List Token → Result Program ParseFault → Type 0
IsParsed text tokens (Ok program) = (depth : ℕ) × SpellsIn text tokens program depth × (depth ≤ most_depth)
IsParsed text tokens (Err (Unexpected k)) = IsUnexpected text tokens k
IsParsed text tokens (Err (TooDeep k)) = IsTooDeep text tokens k
IsParsed text tokens (Err Memory) = Unit {0}
