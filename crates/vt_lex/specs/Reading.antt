use Rattle.std.specs.Prelude.{◌≡◌, ℕ, ◌+◌, ◌==◌, ◌&&◌, ◌||◌, not, nat_le, Bool, true, false, if◌then◌else◌, List, [], ◌∷◌, ◌++◌, nat_eq, take, take_while, length, Option, Some, None, find}
use Rattle.std.specs.Char.{is_ascii_digit}
use Rattle.std.specs.List.{prefix_len, starts_with}
use Rattle.std.specs.Option.{option_map, option_map_or}
use Rattle.std.specs.Str.{bytes_eq}
use Rattle.unicode_ident.specs.Ident.{is_xid_start, is_xid_continue}
use Rattle.vt_lex.specs.declared.pieces.Front.{Front}
use Rattle.vt_lex.specs.declared.pieces.Front.TheVariants as front
use Rattle.vt_lex.specs.declared.token.Key.{Key}
use Rattle.vt_lex.specs.declared.token.Key.TheVariants.{DefKey, RecKey, LetKey, InKey, FunKey, IfKey, ThenKey, ElseKey, MatchKey, WithKey, TrueKey, FalseKey, AndKey, OrKey}
use Rattle.vt_lex.specs.declared.token.Sign.{Sign}
use Rattle.vt_lex.specs.declared.token.Sign.TheVariants.{Arrow, Colons, ParenOpen, ParenClose, SquareOpen, SquareClose, BraceOpen, BraceClose, Comma, Semicolon, Bar, Equals, Less, Plus, Minus, Star, Caret, Question}
use Rattle.vt_lex.specs.declared.token.Token.{Token}
use Rattle.vt_lex.specs.declared.token.TokenKind.{TokenKind}
use Rattle.vt_lex.specs.declared.token.TokenKind.TheVariants as kind
use Rattle.vt_lex.specs.Tokens.{key_text, sign_text, quote, backslash, line_feed, at_sign, number_after, largest_number, Spelled}
use Rattle.vt_lex.specs.Lexing.{byte_count, IsGap, IsLongest}

-- Reading on lists: what each step of the lexer answers. That it is what `Lexes` and `Misses` say is a
-- theorem.

-- the test of a blank
abbrev pub is_blank : ℕ → Bool
is_blank c = c == 32 || c == 9 || c == 10 || c == 13

-- how many characters the gap at the front has; inside a comment or not
abbrev pub gap_length : Bool → List ℕ → ℕ
gap_length inside [] = 0
gap_length true (c ∷ cs) = 1 + gap_length (not (c == line_feed)) cs
gap_length false (c ∷ cs) = if c == 35 then 1 + gap_length true cs else (if is_blank c then 1 + gap_length false cs else 0)

-- the test of a name's first character
abbrev pub is_name_start : ℕ → Bool
is_name_start c = c == 95 || is_xid_start c

-- how many characters the word at the front has
abbrev pub word_length : List ℕ → ℕ
word_length [] = 0
word_length (c ∷ cs) = if is_name_start c then 1 + prefix_len is_xid_continue cs else 0

-- how many characters stand up to and with the quote that closes a string; after a backslash or not
abbrev pub string_length : Bool → List ℕ → Option ℕ
string_length escaped [] = None
string_length escaped (c ∷ cs) =
    if c == line_feed then None
    else (if not escaped && c == quote then Some 1 else option_map (λ n. 1 + n) (string_length (not escaped && c == backslash) cs))

-- the reserved words
abbrev pub keys : List Key
keys = DefKey ∷ RecKey ∷ LetKey ∷ InKey ∷ FunKey ∷ IfKey ∷ ThenKey ∷ ElseKey ∷ MatchKey ∷ WithKey ∷ TrueKey ∷ FalseKey ∷ AndKey ∷ OrKey ∷ []

-- the reserved word that these characters spell
abbrev pub key_at : List ℕ → Option Key
key_at cs = find (λ key. bytes_eq cs (key_text key)) keys

-- a reserved word or a name
abbrev pub word_kind : List ℕ → TokenKind
word_kind cs = option_map_or kind.Key (key_at cs) kind.Name

-- the signs, the longer ones first
abbrev pub signs : List Sign
signs = Arrow ∷ Colons ∷ ParenOpen ∷ ParenClose ∷ SquareOpen ∷ SquareClose ∷ BraceOpen ∷ BraceClose ∷ Comma ∷ Semicolon ∷ Bar ∷ Equals ∷ Less ∷ Plus ∷ Minus ∷ Star ∷ Caret ∷ Question ∷ []

-- the first sign of them that the characters begin with
abbrev pub sign_at : List ℕ → Option Sign
sign_at cs = find (λ sign. starts_with nat_eq cs (sign_text sign)) signs

-- the number that digits spell, if it is not too large
abbrev pub number_of : List ℕ → Option ℕ
number_of digits = if nat_le (number_after 0 digits) largest_number then Some (number_after 0 digits) else None

-- what an opening quote begins, where its string closes after so many characters or never
abbrev pub string_front : Option ℕ → Front
string_front None = front.OpenString
string_front (Some count) = front.Token kind.Quoted (count + 1)

-- what an at sign begins, before a word of so many characters
abbrev pub dimension_front : ℕ → Front
dimension_front count = if count == 0 then front.BadCharacter else front.Token kind.Dim (count + 1)

-- what so many digits are, which spell this number or one that is too large
abbrev pub number_front : Option ℕ → ℕ → Front
number_front None count = front.BigNumber count
number_front (Some value) count = front.Token (kind.Number value) count

-- what a word of so many characters is
abbrev pub word_front : List ℕ → ℕ → Front
word_front text count = front.Token (word_kind (take count text)) count

-- what this sign is, or a character that begins nothing
abbrev pub sign_front : Option Sign → Front
sign_front None = front.BadCharacter
sign_front (Some sign) = front.Token (kind.Sign sign) (length (sign_text sign))

-- what stands at the front, by the character there
abbrev pub front_of : List ℕ → Front
front_of [] = front.Nothing
front_of (c ∷ cs) =
    if c == quote then string_front (string_length false cs)
    else (if c == at_sign then dimension_front (word_length cs)
    else (if is_ascii_digit c then number_front (number_of (take_while is_ascii_digit (c ∷ cs))) (prefix_len is_ascii_digit (c ∷ cs))
    else (if is_name_start c then word_front (c ∷ cs) (word_length (c ∷ cs))
    else sign_front (sign_at (c ∷ cs)))))

-- Of characters of which the first stands at the byte `at`, the rest is left after the gap, and the first
-- of it stands at the byte `start`.
pub record SkipsGap (at : ℕ) (text rest : List ℕ) (start : ℕ) : Type 0 where
  pub gap : List ℕ
  pub splits : text ≡ gap ++ rest
  pub is_gap : IsGap gap rest
  pub whole : gap_length false rest ≡ 0
  pub start_is : start ≡ at + byte_count gap

-- The next token of characters of which the first stands at this byte, and the characters after it.
pub record IsNext (at : ℕ) (text : List ℕ) (t : Token) (rest : List ℕ) : Type 0 where
  pub gap : List ℕ
  pub piece : List ℕ
  pub splits : text ≡ gap ++ (piece ++ rest)
  pub is_gap : IsGap gap (piece ++ rest)
  pub is_longest : IsLongest piece rest
  pub spelled : Spelled t.kind piece
  pub span : t.span ≡ record { start = at + byte_count gap; end = at + byte_count gap + byte_count piece }
