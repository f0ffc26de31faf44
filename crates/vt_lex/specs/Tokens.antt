use Rattle.std.specs.Prelude.{◌≡◌, ◌≢◌, ℕ, ◌+◌, ◌-◌, ◌*◌, ◌<◌, ◌≤◌, ◌⊎◌, List, [], ◌∷◌, codes, IsTrue}
use Rattle.unicode_ident.specs.Ident.{is_xid_start, is_xid_continue}
use Rattle.vt_lex.specs.declared.token.Key.{Key}
use Rattle.vt_lex.specs.declared.token.Key.TheVariants.{DefKey, RecKey, LetKey, InKey, FunKey, IfKey, ThenKey, ElseKey, MatchKey, WithKey, TrueKey, FalseKey, AndKey, OrKey}
use Rattle.vt_lex.specs.declared.token.Sign.{Sign}
use Rattle.vt_lex.specs.declared.token.Sign.TheVariants.{Arrow, Colons, ParenOpen, ParenClose, SquareOpen, SquareClose, BraceOpen, BraceClose, Comma, Semicolon, Bar, Equals, Less, Plus, Minus, Star, Caret, Question}
use Rattle.vt_lex.specs.declared.token.TokenKind.{TokenKind}
use Rattle.vt_lex.specs.declared.token.TokenKind.TheVariants as kind

-- What each kind of token spells, on lists of characters.

-- the spelling of each reserved word
abbrev pub key_text : Key → List ℕ
key_text DefKey = codes "def"
key_text RecKey = codes "rec"
key_text LetKey = codes "let"
key_text InKey = codes "in"
key_text FunKey = codes "fun"
key_text IfKey = codes "if"
key_text ThenKey = codes "then"
key_text ElseKey = codes "else"
key_text MatchKey = codes "match"
key_text WithKey = codes "with"
key_text TrueKey = codes "true"
key_text FalseKey = codes "false"
key_text AndKey = codes "and"
key_text OrKey = codes "or"

-- the spelling of each sign
abbrev pub sign_text : Sign → List ℕ
sign_text Arrow = codes "->"
sign_text Colons = codes "::"
sign_text ParenOpen = codes "("
sign_text ParenClose = codes ")"
sign_text SquareOpen = codes "["
sign_text SquareClose = codes "]"
sign_text BraceOpen = codes "{"
sign_text BraceClose = codes "}"
sign_text Comma = codes ","
sign_text Semicolon = codes ";"
sign_text Bar = codes "|"
sign_text Equals = codes "="
sign_text Less = codes "<"
sign_text Plus = codes "+"
sign_text Minus = codes "-"
sign_text Star = codes "*"
sign_text Caret = codes "^"
sign_text Question = codes "?"

-- an ASCII digit
abbrev pub IsDigit : ℕ → Type 0
IsDigit c = (48 ≤ c) × (c ≤ 57)

-- digits alone
abbrev pub AreDigits : List ℕ → Type 0
AreDigits [] = Unit {0}
AreDigits (c ∷ cs) = IsDigit c × AreDigits cs

-- the number that digits spell, after a number that the digits before them spell
abbrev pub number_after : ℕ → List ℕ → ℕ
number_after value [] = value
number_after value (digit ∷ digits) = number_after (10 * value + (digit - 48)) digits

-- one or more digits of this number
abbrev pub IsNumber : List ℕ → ℕ → Type 0
IsNumber [] value = ⊥
IsNumber (digit ∷ digits) value = AreDigits (digit ∷ digits) × (number_after 0 (digit ∷ digits) ≡ value)

-- the character round a string
abbrev pub quote : ℕ
quote = 34

-- the character that takes the next one with it
abbrev pub backslash : ℕ
backslash = 92

-- the character that ends a line
abbrev pub line_feed : ℕ
line_feed = 10

-- What may stand in a string up to and with the quote that closes it: a backslash takes the next
-- character with it, and no line feed stands there.
abbrev pub IsStringRest : List ℕ → Type 0
IsStringRest [] = ⊥
IsStringRest (c ∷ []) = c ≡ quote
IsStringRest (c ∷ d ∷ cs) =
    ((c ≡ backslash) × (d ≢ line_feed) × IsStringRest cs) ⊎ ((c ≢ backslash) × (c ≢ quote) × (c ≢ line_feed) × IsStringRest (d ∷ cs))

-- a string with both its quotes
abbrev pub IsString : List ℕ → Type 0
IsString [] = ⊥
IsString (c ∷ cs) = (c ≡ quote) × IsStringRest cs

-- a character that may begin a name
abbrev pub IsNameStart : ℕ → Type 0
IsNameStart c = (c ≡ 95) ⊎ IsTrue (is_xid_start c)

-- characters that may go on in a name
abbrev pub AreNameParts : List ℕ → Type 0
AreNameParts [] = Unit {0}
AreNameParts (c ∷ cs) = IsTrue (is_xid_continue c) × AreNameParts cs

-- a name or a reserved word
abbrev pub IsWord : List ℕ → Type 0
IsWord [] = ⊥
IsWord (c ∷ cs) = IsNameStart c × AreNameParts cs

-- the character that begins a dimension
abbrev pub at_sign : ℕ
at_sign = 64

-- a dimension: an at sign that a word follows at once
abbrev pub IsDimension : List ℕ → Type 0
IsDimension [] = ⊥
IsDimension (c ∷ cs) = (c ≡ at_sign) × IsWord cs

-- the largest number that may be written
abbrev pub largest_number : ℕ
largest_number = 9223372036854775807

-- The characters spell a token of this kind.
abbrev pub Spelled : TokenKind → List ℕ → Type 0
Spelled (kind.Number value) cs = IsNumber cs value × (value ≤ largest_number)
Spelled kind.Quoted cs = IsString cs
Spelled kind.Name cs = IsWord cs × ((key : Key) → cs ≢ key_text key)
Spelled kind.Dim cs = IsDimension cs
Spelled (kind.Key key) cs = cs ≡ key_text key
Spelled (kind.Sign sign) cs = cs ≡ sign_text sign

-- digits of a number that is too large
abbrev pub IsBigNumber : List ℕ → Type 0
IsBigNumber cs = (value : ℕ) × IsNumber cs value × (largest_number < value)

-- What is taken as one piece: a token of some kind, or a number that is too large.
abbrev pub IsPiece : List ℕ → Type 0
IsPiece cs = ((k : TokenKind) × Spelled k cs) ⊎ IsBigNumber cs
