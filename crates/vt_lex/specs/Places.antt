use Rattle.std.specs.Prelude.{◌≡◌, ℕ, ◌+◌, ◌==◌, List, length, take, count_by}
use Rattle.std.specs.List.{after_last}
use Rattle.vt_lex.specs.declared.place.LineCol.{LineCol}
use Rattle.vt_lex.specs.Lexing.{AreCharactersOf}

-- The place of a byte of a text: line and column, counted from 1 in the characters before it.

-- the characters after the last line feed, or all where there is none
abbrev pub last_line : List ℕ → List ℕ
last_line cs = after_last (λ c. c == 10) cs

-- the place after these characters
abbrev pub place_after : List ℕ → LineCol
place_after cs = record { line = 1 + count_by (λ c. c == 10) cs; column = 1 + length (last_line cs) }

-- the place of this byte of the text
abbrev pub IsPlace : List ℕ → ℕ → LineCol → Type 0
IsPlace text at place = (cs : List ℕ) × AreCharactersOf (take at text) cs × (place ≡ place_after cs)
