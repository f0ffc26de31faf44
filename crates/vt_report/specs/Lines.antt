use Rattle.std.specs.Prelude.{ℕ, List, [], ◌∷◌, ◌++◌, codes, decimal}
use Rattle.vt_lex.specs.declared.place.LineCol.{LineCol}
use Rattle.vt_report.specs.declared.refusal.Refusal.{Refusal}
use Rattle.vt_report.specs.declared.refusal.Refusal.TheVariants.{TooLong, NotText, BadCharacter, OpenString, BigNumber, Unexpected, TooDeep, Unbound, TooManyDimensions, BadDecision, UnknownDimension, NotPlain, TooManyLeaves, TooBigPart, TooBigChange}

-- a text, and the end of its line
abbrev pub line : List ℕ → List ℕ
line text = text ++ 10 ∷ []

-- a place, and what is said of it
abbrev pub placed : LineCol → List ℕ → List ℕ
placed at text = line (decimal at.line ++ codes ":" ++ decimal at.column ++ codes " " ++ text)

-- the line of a refusal
abbrev pub refusal_line : Refusal → List ℕ
refusal_line TooLong = line (codes "file too long")
refusal_line (NotText at) = line (codes "not UTF-8 at byte " ++ decimal at)
refusal_line (BadCharacter at) = placed at (codes "bad character")
refusal_line (OpenString at) = placed at (codes "string not closed")
refusal_line (BigNumber at) = placed at (codes "number too large")
refusal_line (Unexpected at token) = placed at (codes "unexpected " ++ token)
refusal_line (TooDeep at) = placed at (codes "nested too deep")
refusal_line (Unbound at name) = placed at (codes "unbound name " ++ name)
refusal_line (TooManyDimensions at) = placed at (codes "more than 64 dimensions")
refusal_line BadDecision = line (codes "bad decision")
refusal_line (UnknownDimension name) = line (codes "unknown dimension " ++ name)
refusal_line (NotPlain name) = line (codes "dimension " ++ name ++ codes " is undecided")
refusal_line TooManyLeaves = line (codes "more than 2048 leaves")
refusal_line (TooBigPart name) = line (codes "type of " ++ name ++ codes " has more than 4096 nodes")
refusal_line (TooBigChange at) = line (codes "type of the change at " ++ decimal at.line ++ codes ":" ++ decimal at.column ++ codes " has more than 4096 nodes")
