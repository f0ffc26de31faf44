use Rattle.std.proofs.Common.{◌≡◌, ◌≢◌, ℕ, ◌+◌, ◌<◌, ◌≤◌, ◌==◌, nat_eq, nat_le, Bool, true, false, inl, inr, List, [], ◌∷◌, ◌++◌, length, take, Option, Some, None, refl, sym, ap, subst, ◌∙◌, arith, rules, add-one, take_at}
use Rattle.std.specs.Char.{is_ascii_digit}
use Rattle.std.specs.List.{prefix_len, find}
use Rattle.std.specs.Option.{option_map_or}
use Rattle.std.specs.Str.{bytes_eq}
use Rattle.std.proofs.lemmas.Bool.{cases_Bool, cases_lt}
use Rattle.std.proofs.lemmas.Bool.Decides.{nat_tests}
use Rattle.std.proofs.lemmas.Option.{same_Some}
use Rattle.std.proofs.lemmas.Slice.Eq.{bytes_eq-Decides}
use Rattle.unicode_ident.proofs.Computing.{unicode_ident}
use Rattle.unicode_ident.proofs.IdentLemmas.{is_xid_start-ascii}
use Rattle.vt_lex.specs.declared.pieces.Front.{Front}
use Rattle.vt_lex.specs.declared.pieces.Front.TheVariants as front
use Rattle.vt_lex.specs.declared.token.Key.{Key}
use Rattle.vt_lex.specs.declared.token.Key.TheVariants.{DefKey}
use Rattle.vt_lex.specs.declared.token.Sign.{Sign}
use Rattle.vt_lex.specs.declared.token.Sign.TheVariants.{Arrow, Minus}
use Rattle.vt_lex.specs.declared.token.TokenKind.{TokenKind}
use Rattle.vt_lex.specs.declared.token.TokenKind.TheVariants as kind
use Rattle.vt_lex.specs.Tokens.{key_text, sign_text, AreDigits, IsStringRest, IsNameStart, IsWord, Spelled, IsBigNumber, number_after, largest_number}
use Rattle.vt_lex.specs.Reading.{is_blank, word_length, keys, key_at, word_kind, sign_at, number_of, number_front, sign_front, front_of}
use Rattle.vt_lex.proofs.PieceLemmas.{digit_test, start_test, digits-within, word-within, string_length-rest}

-- What stands at the front of characters that begin with a piece: a piece that is as long or longer.

-- what is found passes the test
pub find_passes : {X : Type 0} (p : X → Bool) (xs : List X) (x : X) → find p xs ≡ Some x → p x ≡ true
find_passes p [] x h = cc
find_passes p (y ∷ ys) x h = elim (cases_Bool (p y)) [
  | inl e ↦ subst (λ z. p z ≡ true) (same_Some _ _ (rw e at h)) e
  | inr e ↦ find_passes p ys x (rw e at h)
]

-- a reserved word is found by its spelling
pub key_at-text : (key : Key) → key_at (key_text key) ≡ Some key
key_at-text DefKey = refl
key_at-text key = refl

-- a reserved word that is found is spelled
pub key_at-spelled : (cs : List ℕ) (key : Key) → key_at cs ≡ Some key → cs ≡ key_text key
key_at-spelled cs key h = (bytes_eq-Decides cs (key_text key)).0 (find_passes (λ k. bytes_eq cs (key_text k)) keys key h)

-- a reserved word is a word
pub key_is_word : (key : Key) → IsWord (key_text key)
unfolding unicode_ident
key_is_word DefKey = search rules
key_is_word key = search rules

-- A name's first character begins nothing else.
pub start_alone : (c : ℕ) → IsNameStart c → ((c == 34) ≡ false) × ((c == 64) ≡ false) × (is_ascii_digit c ≡ false) × ((c == 35) ≡ false) × (is_blank c ≡ false)
start_alone c h = elim (cases_lt c 128) [
  | inl low ↦ let ascii = is_xid_start-ascii c low in (grind (arith, nat_tests), grind (arith, nat_tests), grind (arith, nat_tests), grind (arith, nat_tests), grind (arith, nat_tests))
  | inr high ↦ (grind (arith, nat_tests), grind (arith, nat_tests), grind (arith, nat_tests), grind (arith, nat_tests), grind (arith, nat_tests))
]

-- A sign begins nothing else.
pub front_of-sign : (sign : Sign) (rest : List ℕ) → front_of (sign_text sign ++ rest) ≡ sign_front (sign_at (sign_text sign ++ rest))
unfolding unicode_ident
front_of-sign Arrow rest = refl
front_of-sign sign rest = refl

-- how many characters the piece at the front has
abbrev pub longest_of : Front → ℕ
longest_of front.Nothing = 0
longest_of (front.Token k count) = count
longest_of (front.BigNumber count) = count
longest_of front.OpenString = 0
longest_of front.BadCharacter = 0

-- a token of this kind, or a number that is too large
abbrev pub found : Option TokenKind → ℕ → Front
found None count = front.BigNumber count
found (Some k) count = front.Token k count

-- the characters are such a piece
abbrev pub Reads : Option TokenKind → List ℕ → Type 0
Reads None cs = IsBigNumber cs
Reads (Some k) cs = Spelled k cs

-- At the front stands a piece that is longer, or this one.
pub record Reaches (what : Option TokenKind) (piece : List ℕ) (f : Front) : Type 0 where
  pub within : length piece ≤ longest_of f
  pub exact : longest_of f ≡ length piece → f ≡ found what (length piece)

-- what is counted at the front, where it is made of the characters that are counted
reaches-run : (make : List ℕ → ℕ → Front) → ((cs : List ℕ) (count : ℕ) → longest_of (make cs count) ≡ count)
    → (what : Option TokenKind) (piece rest : List ℕ) (count : ℕ) → length piece ≤ count
    → make piece (length piece) ≡ found what (length piece) → Reaches what piece (make (take count (piece ++ rest)) count)
reaches-run make longest what piece rest count within made = record {
  within = rw longest within;
  exact = λ e.
      let same : count ≡ length piece = sym (longest _ count) ∙ e in
      rw (same, take_at piece rest (length piece) refl) made;
}

number_front-longest : (value : Option ℕ) (count : ℕ) → longest_of (number_front value count) ≡ count
number_front-longest None count = refl
number_front-longest (Some value) count = refl

-- a row of digits at the front
reaches-number : (what : Option TokenKind) (c : ℕ) (cs rest : List ℕ) → AreDigits (c ∷ cs)
    → number_front (number_of (c ∷ cs)) (length (c ∷ cs)) ≡ found what (length (c ∷ cs))
    → Reaches what (c ∷ cs) (front_of (c ∷ (cs ++ rest)))
reaches-number what c cs rest h made =
    let digit = (digit_test c).1 h.0 in
    let no_quote : (c == 34) ≡ false = grind (arith, nat_tests, h.0) in
    let no_at : (c == 64) ≡ false = grind (arith, nat_tests, h.0) in
    let run = reaches-run (λ digits count. number_front (number_of digits) count) (λ digits count. number_front-longest (number_of digits) count) what (c ∷ cs) rest (prefix_len is_ascii_digit (c ∷ (cs ++ rest))) (digits-within (c ∷ cs) rest h) made in
    rw (no_quote, no_at, digit) (rw digit at run)

-- a word at the front
reaches-word : (k : TokenKind) (c : ℕ) (cs rest : List ℕ) → IsWord (c ∷ cs) → word_kind (c ∷ cs) ≡ k → Reaches (Some k) (c ∷ cs) (front_of (c ∷ (cs ++ rest)))
reaches-word k c cs rest h made =
    let start = (start_test c).1 h.0 in
    let alone = start_alone c h.0 in
    let run = reaches-run (λ word count. front.Token (word_kind word) count) (λ word count. refl) (Some k) (c ∷ cs) rest (word_length (c ∷ (cs ++ rest))) (word-within (c ∷ cs) rest h) (ap (λ k. front.Token k (length (c ∷ cs))) made) in
    rw (alone.0, alone.1, alone.2, start) (rw start at run)

-- a dimension at the front
reaches-dimension : (cs rest : List ℕ) → IsWord cs → Reaches (Some kind.Dim) (64 ∷ cs) (front_of (64 ∷ (cs ++ rest)))
reaches-dimension [] rest h = absurd h
reaches-dimension (c ∷ cs) rest h =
    let within = word-within (c ∷ cs) rest h in
    let some : (word_length (c ∷ (cs ++ rest)) == 0) ≡ false = grind (arith, nat_tests, within) in
    let run = reaches-run (λ word count. front.Token kind.Dim count) (λ word count. refl) (Some kind.Dim) (64 ∷ c ∷ cs) rest (word_length (c ∷ (cs ++ rest)) + 1) (omega (arith, within)) refl in
    rw some run

-- a string at the front
reaches-string : (cs rest : List ℕ) → IsStringRest cs → Reaches (Some kind.Quoted) (34 ∷ cs) (front_of (34 ∷ (cs ++ rest)))
reaches-string cs rest h = rw (string_length-rest cs rest h, add-one) record { within = omega arith; exact = λ e. refl }

-- a sign at the front
reaches-sign : (sign : Sign) (rest : List ℕ) → Reaches (Some (kind.Sign sign)) (sign_text sign) (sign_front (sign_at (sign_text sign ++ rest)))
reaches-sign Minus [] = record { within = omega arith; exact = λ e. refl }
reaches-sign Minus (c ∷ rest) = elim (cases_Bool (nat_eq 62 c)) [
  | inl e ↦ rw e record { within = omega arith; exact = λ same. absurd (omega arith) }
  | inr e ↦ rw e record { within = omega arith; exact = λ same. refl }
]
reaches-sign sign rest = record { within = omega arith; exact = λ e. refl }

-- the number that digits spell is read, if it is not too large
number_of-small : (cs : List ℕ) (value : ℕ) → number_after 0 cs ≡ value → value ≤ largest_number → number_of cs ≡ Some value
number_of-small cs value e h = let small : nat_le (number_after 0 cs) largest_number ≡ true = grind (arith, nat_tests) in rw small (ap Some e)

number_of-big : (cs : List ℕ) (value : ℕ) → number_after 0 cs ≡ value → largest_number < value → number_of cs ≡ None
number_of-big cs value e h = let big : nat_le (number_after 0 cs) largest_number ≡ false = grind (arith, nat_tests) in rw big refl

-- a word that is no reserved one is a name
word_kind-name : (cs : List ℕ) → ((key : Key) → cs ≢ key_text key) → word_kind cs ≡ kind.Name
word_kind-name cs other = by_key (key_at cs) refl
  where
    by_key : (found : Option Key) → key_at cs ≡ found → option_map_or kind.Key found kind.Name ≡ kind.Name
    by_key None e = refl
    by_key (Some key) e = absurd (other key (key_at-spelled cs key e))

-- At the front of characters that begin with a piece stands this piece or a longer one.
pub piece_reaches : (what : Option TokenKind) (piece rest : List ℕ) → Reads what piece → Reaches what piece (front_of (piece ++ rest))
piece_reaches None [] rest h = absurd h.1
piece_reaches None (c ∷ cs) rest (value, spelled, big) =
    reaches-number None c cs rest spelled.0 (ap (λ n. number_front n (length (c ∷ cs))) (number_of-big (c ∷ cs) value spelled.1 big))
piece_reaches (Some (kind.Number value)) [] rest h = absurd h.0
piece_reaches (Some (kind.Number value)) (c ∷ cs) rest (spelled, small) =
    reaches-number (Some (kind.Number value)) c cs rest spelled.0 (ap (λ n. number_front n (length (c ∷ cs))) (number_of-small (c ∷ cs) value spelled.1 small))
piece_reaches (Some kind.Quoted) [] rest h = absurd h
piece_reaches (Some kind.Quoted) (c ∷ cs) rest h = rw h.0 (reaches-string cs rest h.1)
piece_reaches (Some kind.Name) [] rest h = absurd h.0
piece_reaches (Some kind.Name) (c ∷ cs) rest h = reaches-word kind.Name c cs rest h.0 (word_kind-name (c ∷ cs) h.1)
piece_reaches (Some kind.Dim) [] rest h = absurd h
piece_reaches (Some kind.Dim) (c ∷ cs) rest h = rw h.0 (reaches-dimension cs rest h.1)
piece_reaches (Some (kind.Key key)) piece rest h = reaches-key piece (key_is_word key) h
  where
    reaches-key : (cs : List ℕ) → IsWord (key_text key) → cs ≡ key_text key → Reaches (Some (kind.Key key)) cs (front_of (cs ++ rest))
    reaches-key [] word e = absurd (subst IsWord (sym e) word)
    reaches-key (c ∷ cs) word e =
        reaches-word (kind.Key key) c cs rest (subst IsWord (sym e) word)
        (ap word_kind e ∙ ap (λ k. option_map_or kind.Key k kind.Name) (key_at-text key))
piece_reaches (Some (kind.Sign sign)) piece rest h =
    rw (h, front_of-sign sign rest) (reaches-sign sign rest)

-- no piece is without characters
pub piece_some : (what : Option TokenKind) → Reads what [] → ⊥
piece_some None h = let same = (piece_reaches None [] [] h).exact refl in cc
piece_some (Some k) h = let same = (piece_reaches (Some k) [] [] h).exact refl in cc
