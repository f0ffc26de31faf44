use Rattle.std.specs.Prelude.{◌≡◌, ◌≢◌, ℕ, ◌+◌, ◌⊎◌, List, [], ◌∷◌, ◌++◌, length, encode_utf8_all, IsTrue}
use Rattle.std.specs.Str.{all_scalars}
use Rattle.vt_lex.specs.declared.token.Token.{Token}
use Rattle.vt_lex.specs.declared.fault.LexFault.{LexFault}
use Rattle.vt_lex.specs.declared.fault.LexFault.TheVariants.{BadCharacter, OpenString, BigNumber, Memory}
use Rattle.vt_lex.specs.Tokens.{quote, Spelled, IsBigNumber, IsPiece}

-- The list of tokens of a text, on its characters; places are counted in bytes of UTF-8.

-- how many bytes a text may have
abbrev pub most_bytes : ℕ
most_bytes = 262144

-- how many bytes characters take
abbrev pub byte_count : List ℕ → ℕ
byte_count cs = length (encode_utf8_all cs)

-- space, tab, line feed, carriage return
abbrev pub IsBlank : ℕ → Type 0
IsBlank c = (c ≡ 32) ⊎ (c ≡ 9) ⊎ (c ≡ 10) ⊎ (c ≡ 13)

-- a character that begins no gap: no blank, and not the sign of a comment
abbrev pub BeginsNoGap : ℕ → Type 0
BeginsNoGap c = (IsBlank c → ⊥) × (c ≢ 35)

-- no line feed among them
abbrev pub IsOnOneLine : List ℕ → Type 0
IsOnOneLine [] = Unit {0}
IsOnOneLine (c ∷ cs) = (c ≢ 10) × IsOnOneLine cs

-- nothing, or a line feed first
abbrev pub EndsLine : List ℕ → Type 0
EndsLine [] = Unit {0}
EndsLine (c ∷ cs) = c ≡ 10

-- What stands between tokens: blanks, and comments, which go from `#` up to the next line feed or the
-- end of the text. The second list is what follows.
pub data IsGap : List ℕ → List ℕ → Type 0 where
  nothing : (rest : List ℕ) → IsGap [] rest
  blank : (c : ℕ) (gap rest : List ℕ) → IsBlank c → IsGap gap rest → IsGap (c ∷ gap) rest
  comment : (text gap rest : List ℕ) → IsOnOneLine text → EndsLine (gap ++ rest) → IsGap gap rest → IsGap (35 ∷ (text ++ gap)) rest

-- The characters are the longest piece at the front of themselves and the rest.
pub record IsLongest (cs rest : List ℕ) : Type 0 where
  pub piece : IsPiece cs
  pub longest : (more others : List ℕ) → more ≢ [] → more ++ others ≡ rest → IsPiece (cs ++ more) → ⊥

-- no piece stands at the front
abbrev pub HasNoPiece : List ℕ → Type 0
HasNoPiece cs = (front rest : List ℕ) → front ++ rest ≡ cs → IsPiece front → ⊥

-- The tokens of these characters, of which the first stands at this byte: after each gap the longest
-- piece, and nothing but a gap after the last.
pub data Lexes : ℕ → List ℕ → List Token → Type 0 where
  end : (at : ℕ) (gap : List ℕ) → IsGap gap [] → Lexes at gap []
  token : (at : ℕ) (gap cs rest : List ℕ) (t : Token) (tokens : List Token)
      → IsGap gap (cs ++ rest) → IsLongest cs rest → Spelled t.kind cs
      → t.span ≡ record { start = at + byte_count gap; end = at + byte_count gap + byte_count cs }
      → Lexes (at + byte_count gap + byte_count cs) rest tokens
      → Lexes at (gap ++ (cs ++ rest)) (t ∷ tokens)

-- The first place at which no token stands, with the kind of the fault.
pub data Misses : ℕ → List ℕ → LexFault → Type 0 where
  later : (at : ℕ) (gap cs rest : List ℕ) (t : Token) (fault : LexFault)
      → IsGap gap (cs ++ rest) → IsLongest cs rest → Spelled t.kind cs
      → Misses (at + byte_count gap + byte_count cs) rest fault
      → Misses at (gap ++ (cs ++ rest)) fault
  big_number : (at : ℕ) (gap cs rest : List ℕ)
      → IsGap gap (cs ++ rest) → IsLongest cs rest → IsBigNumber cs
      → Misses at (gap ++ (cs ++ rest)) (BigNumber (record { start = at + byte_count gap; end = at + byte_count gap + byte_count cs }))
  open_string : (at : ℕ) (gap rest : List ℕ)
      → IsGap gap (quote ∷ rest) → HasNoPiece (quote ∷ rest)
      → Misses at (gap ++ (quote ∷ rest)) (OpenString (at + byte_count gap))
  bad_character : (at : ℕ) (gap : List ℕ) (c : ℕ) (rest : List ℕ)
      → IsGap gap (c ∷ rest) → BeginsNoGap c → c ≢ quote → HasNoPiece (c ∷ rest)
      → Misses at (gap ++ (c ∷ rest)) (BadCharacter (at + byte_count gap))

-- the characters of a text
pub record AreCharactersOf (text cs : List ℕ) : Type 0 where
  pub scalars : IsTrue (all_scalars cs)
  pub encoded : encode_utf8_all cs ≡ text

-- the tokens of a text
abbrev pub AreTokensOf : List ℕ → List Token → Type 0
AreTokensOf text tokens = (cs : List ℕ) × AreCharactersOf text cs × Lexes 0 cs tokens

-- the first miss, or want of memory
abbrev pub IsMissUnless : ℕ → List ℕ → LexFault → Type 0
IsMissUnless at cs Memory = Unit {0}
IsMissUnless at cs fault = Misses at cs fault

-- what a text answers that has no tokens
abbrev pub IsFaultOf : List ℕ → LexFault → Type 0
IsFaultOf text fault = (cs : List ℕ) × AreCharactersOf text cs × IsMissUnless 0 cs fault

-- characters have no two lists of tokens
abbrev pub HasOneReading : Type 0
HasOneReading = (at : ℕ) (cs : List ℕ) (ts us : List Token) → Lexes at cs ts → Lexes at cs us → ts ≡ us

-- characters have no two first misses
abbrev pub HasOneMiss : Type 0
HasOneMiss = (at : ℕ) (cs : List ℕ) (f g : LexFault) → Misses at cs f → Misses at cs g → f ≡ g

-- characters that have tokens have no miss
abbrev pub NeverReadsAndMisses : Type 0
NeverReadsAndMisses = (at : ℕ) (cs : List ℕ) (ts : List Token) (f : LexFault) → Lexes at cs ts → Misses at cs f → ⊥
