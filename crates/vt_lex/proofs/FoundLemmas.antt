use Rattle.std.proofs.Common.{◌≡◌, ◌≢◌, ℕ, ◌+◌, ◌<◌, ◌≤◌, ◌==◌, nat_eq, nat_le, Bool, true, false, not, ◌&&◌, inl, inr, List, [], ◌∷◌, ◌++◌, length, take, drop, Option, Some, None, refl, sym, ap, subst, ◌∙◌, arith, eq-eqb, eqb-true, leb-true, one-add, add-one, take-append-drop, length-append, length-take, length-take-le, append_assoc}
use Rattle.std.specs.Char.{is_ascii_digit}
use Rattle.std.specs.List.{prefix_len, take_while, starts_with}
use Rattle.std.specs.Option.{option_map, option_map_or}
use Rattle.std.proofs.lemmas.Bool.{cases_Bool, cond_both}
use Rattle.std.proofs.lemmas.Bool.Decides.{nat_tests}
use Rattle.std.proofs.lemmas.List.{nil_from_length}
use Rattle.std.proofs.lemmas.List.Sums.{prefix_len-le-length}
use Rattle.std.proofs.lemmas.Option.{same_Some}
use Rattle.std.proofs.lemmas.Slice.Eq.{bytes_eq-Decides}
use Rattle.vt_lex.specs.declared.pieces.Front.{Front}
use Rattle.vt_lex.specs.declared.pieces.Front.TheVariants as front
use Rattle.vt_lex.specs.declared.token.Key.{Key}
use Rattle.vt_lex.specs.declared.token.Sign.{Sign}
use Rattle.vt_lex.specs.declared.token.TokenKind.{TokenKind}
use Rattle.vt_lex.specs.declared.token.TokenKind.TheVariants as kind
use Rattle.vt_lex.specs.Tokens.{sign_text, AreDigits, IsStringRest, IsWord, Spelled, IsBigNumber, IsPiece, number_after, largest_number}
use Rattle.vt_lex.specs.Lexing.{IsLongest, HasNoPiece}
use Rattle.vt_lex.specs.Reading.{is_name_start, word_length, string_length, key_at, word_kind, signs, sign_at, number_of, string_front, dimension_front, number_front, sign_front, front_of}
use Rattle.vt_lex.proofs.PieceLemmas.{digit_test, AreDigits-front, IsWord-front, IsAfter}
use Rattle.vt_lex.proofs.FrontLemmas.{find_passes, key_at-text, key_at-spelled, longest_of, Reads, piece_reaches, piece_some}

-- What is read at the front stands there.

-- This stands at the front of the characters.
abbrev pub IsFront : List ℕ → Front → Type 0
IsFront text front.Nothing = text ≡ []
IsFront text (front.Token k count) = (count ≤ length text) × Spelled k (take count text)
IsFront text (front.BigNumber count) = (count ≤ length text) × IsBigNumber (take count text)
IsFront text front.OpenString = (rest : List ℕ) × (text ≡ 34 ∷ rest)
IsFront text front.BadCharacter = (c : ℕ) × (rest : List ℕ) × (text ≡ c ∷ rest) × (c ≢ 34)

-- a test that failed
unequal : (a b : ℕ) → (a == b) ≡ false → a ≢ b
unequal a b h = λ e. let equal = eq-eqb a b e in cc

-- what an option's map gives
option_map_some : {A B : Type 0} (f : A → B) (o : Option A) (y : B) → option_map f o ≡ Some y → (x : A) × (o ≡ Some x) × (f x ≡ y)
option_map_some f None y h = cc
option_map_some f (Some x) y h = (x, refl, same_Some _ _ h)

-- a quote that no backslash takes
closing : (escaped : Bool) (c : ℕ) → (not escaped && c == 34) ≡ true → IsAfter escaped (c ∷ [])
closing true c h = cc
closing false c h = eqb-true c 34 h

-- one character more of a string
after_more : (escaped : Bool) (c : ℕ) (cs : List ℕ) → (c == 10) ≡ false → (not escaped && c == 34) ≡ false → IsAfter (not escaped && c == 92) cs → IsAfter escaped (c ∷ cs)
after_more true c cs no_feed no_quote h = (unequal c 10 no_feed, h)
after_more false c cs no_feed no_quote h = elim (cases_Bool (c == 92)) [
  | inl e ↦ escape cs e (rw e at h)
  | inr e ↦ plain cs (unequal c 92 e) (rw e at h)
]
  where
    escape : (cs : List ℕ) → (c == 92) ≡ true → IsAfter true cs → IsStringRest (c ∷ cs)
    escape [] e h = absurd h
    escape (d ∷ cs) e h = inl (eqb-true c 92 e, h.0, h.1)

    plain : (cs : List ℕ) → c ≢ 92 → IsStringRest cs → IsStringRest (c ∷ cs)
    plain [] ne h = absurd h
    plain (d ∷ cs) ne h = inr (ne, unequal c 34 no_quote, unequal c 10 no_feed, h)

-- what is counted up to a quote is the rest of a string
IsAfter-counted : (escaped : Bool) (cs : List ℕ) (count : ℕ) → string_length escaped cs ≡ Some count → (count ≤ length cs) × IsAfter escaped (take count cs)
IsAfter-counted escaped [] count h = cc
IsAfter-counted escaped (c ∷ cs) count h = elim (cases_Bool (c == 10)) [
  | inl feed ↦ let none = rw feed at h in cc
  | inr no_feed ↦ elim (cases_Bool (not escaped && c == 34)) [
    | inl quote ↦ rw (← same_Some _ _ (rw (no_feed, quote) at h)) (omega arith, closing escaped c quote)
    | inr no_quote ↦
        let more = option_map_some (λ n. 1 + n) (string_length (not escaped && c == 92) cs) count (rw (no_feed, no_quote) at h) in
        let rest = IsAfter-counted (not escaped && c == 92) cs more.0 more.1 in
        rw (← more.2, one-add) (omega (arith, rest.0), after_more escaped c (take more.0 cs) no_feed no_quote rest.1)
  ]
]

-- what is counted as a word is one
word_some : (cs : List ℕ) → (word_length cs == 0) ≡ false → (word_length cs ≤ length cs) × IsWord (take (word_length cs) cs)
word_some [] h = cc
word_some (c ∷ cs) h = elim (cases_Bool (is_name_start c)) [
  | inl e ↦ IsWord-front c cs e
  | inr e ↦ let none = rw e at h in cc
]

-- a word spells a token of its kind
Spelled-word : (cs : List ℕ) → IsWord cs → Spelled (word_kind cs) cs
Spelled-word cs h = by_key (key_at cs) refl
  where
    by_key : (found : Option Key) → key_at cs ≡ found → Spelled (option_map_or kind.Key found kind.Name) cs
    by_key None e = (h, λ key same. let some = key_at-text key in let none = rw same at e in cc)
    by_key (Some key) e = key_at-spelled cs key e

-- a sign that is found stands at the front
IsFront-sign : (c : ℕ) (cs : List ℕ) → c ≢ 34 → IsFront (c ∷ cs) (sign_front (sign_at (c ∷ cs)))
IsFront-sign c cs ne = by_sign (sign_at (c ∷ cs)) refl
  where
    by_sign : (found : Option Sign) → sign_at (c ∷ cs) ≡ found → IsFront (c ∷ cs) (sign_front found)
    by_sign None e = (c, cs, refl, ne)
    by_sign (Some sign) e =
        let text = sign_text sign in
        let same : text ≡ take (length text) (c ∷ cs) = (bytes_eq-Decides text (take (length text) (c ∷ cs))).0 (find_passes (λ s. starts_with nat_eq (c ∷ cs) (sign_text s)) signs sign e) in
        (let size = ap length same in omega (arith, size, length-take (length text) (c ∷ cs)), sym same)

-- digits at the front are a number, or one that is too large
IsFront-number : (c : ℕ) (cs : List ℕ) → is_ascii_digit c ≡ true
    → IsFront (c ∷ cs) (number_front (number_of (take_while is_ascii_digit (c ∷ cs))) (prefix_len is_ascii_digit (c ∷ cs)))
IsFront-number c cs e =
    let count = prefix_len is_ascii_digit cs in
    let digits = c ∷ take count cs in
    let within = prefix_len-le-length is_ascii_digit cs in
    let are : AreDigits digits = ((digit_test c).0 e, AreDigits-front cs) in
    rw (e, one-add) (elim (cases_Bool (nat_le (number_after 0 digits) largest_number)) [
      | inl small ↦ rw small (omega arith, ((are, refl), leb-true _ _ small))
      | inr big ↦ rw big (omega arith, (number_after 0 digits, (are, refl), grind (arith, nat_tests)))
    ])

-- what a string's opening quote begins
IsFront-string : (cs : List ℕ) → IsFront (34 ∷ cs) (string_front (string_length false cs))
IsFront-string cs = by_count (string_length false cs) refl
  where
    by_count : (counted : Option ℕ) → string_length false cs ≡ counted → IsFront (34 ∷ cs) (string_front counted)
    by_count None e = (cs, refl)
    by_count (Some count) e = let rest = IsAfter-counted false cs count e in rw add-one (omega (arith, rest.0), (refl, rest.1))

-- what an at sign begins
IsFront-dimension : (cs : List ℕ) → IsFront (64 ∷ cs) (dimension_front (word_length cs))
IsFront-dimension cs =
    cond_both (word_length cs == 0) _ _ (IsFront (64 ∷ cs)) (λ none. (64, cs, refl, λ e. cc)) (λ some.
    let word = word_some cs some in rw add-one (omega (arith, word.0), (refl, word.1)))

-- what is read at the front stands there
pub front_is : (text : List ℕ) → IsFront text (front_of text)
front_is [] = refl
front_is (c ∷ cs) =
    cond_both (c == 34) _ _ (IsFront (c ∷ cs)) (λ quote. rw (eqb-true c 34 quote) (IsFront-string cs)) (λ no_quote.
    cond_both (c == 64) _ _ (IsFront (c ∷ cs)) (λ at. rw (eqb-true c 64 at) (IsFront-dimension cs)) (λ no_at.
    cond_both (is_ascii_digit c) _ _ (IsFront (c ∷ cs)) (λ digit. IsFront-number c cs digit) (λ no_digit.
    cond_both (is_name_start c) _ _ (IsFront (c ∷ cs)) (λ start. let word = IsWord-front c cs start in (word.0, Spelled-word _ word.1)) (λ no_start.
    IsFront-sign c cs (unequal c 34 no_quote)))))

-- what a piece reads
pub reads_of : (cs : List ℕ) → IsPiece cs → (what : Option TokenKind) × Reads what cs
reads_of cs (inl h) = (Some h.0, h.1)
reads_of cs (inr h) = (None, h)

-- a piece has some characters
pub piece_length : (cs : List ℕ) → IsPiece cs → 0 < length cs
piece_length [] h = let read = reads_of [] h in absurd (piece_some read.0 read.1)
piece_length (c ∷ cs) h = omega arith

-- no piece is longer than what is read
pub piece_within : (piece rest text : List ℕ) → piece ++ rest ≡ text → IsPiece piece → length piece ≤ longest_of (front_of text)
piece_within piece rest text e h =
    let read = reads_of piece h in
    subst (λ t. length piece ≤ longest_of (front_of t)) e (piece_reaches read.0 piece rest read.1).within

-- no piece stands where none is read
pub HasNoPiece-front : (text : List ℕ) → longest_of (front_of text) ≡ 0 → HasNoPiece text
HasNoPiece-front text none piece rest e h = omega (arith, none, piece_length piece h, piece_within piece rest text e h)

-- what is read as a piece is the longest one
pub record IsFound (text : List ℕ) (what : Option TokenKind) (count : ℕ) : Type 0 where
  pub within : count ≤ length text
  pub longest : IsLongest (take count text) (drop count text)
  pub reads : Reads what (take count text)

IsFound-front : (text : List ℕ) (what : Option TokenKind) (count : ℕ) → longest_of (front_of text) ≡ count → count ≤ length text → Reads what (take count text) → IsPiece (take count text) → IsFound text what count
IsFound-front text what count size within reads piece = record {
  within = within;
  longest = record {
    piece = piece;
    longest = λ more others some e longer.
        let joined : (take count text ++ more) ++ others ≡ text = append_assoc (take count text) more others ∙ ap (λ t. take count text ++ t) e ∙ take-append-drop count text in
        let bound = piece_within (take count text ++ more) others text joined longer in
        some (nil_from_length more (omega (arith, bound, size, length-append (take count text) more, length-take-le count text within)));
  };
  reads = reads;
}

-- a token that is read is the longest piece
pub IsFound-token : (text : List ℕ) (k : TokenKind) (count : ℕ) → front_of text ≡ front.Token k count → IsFound text (Some k) count
IsFound-token text k count e =
    let here = subst (IsFront text) e (front_is text) in
    IsFound-front text (Some k) count (ap longest_of e) here.0 here.1 (inl (k, here.1))

-- a number that is too large is the longest piece
pub IsFound-big : (text : List ℕ) (count : ℕ) → front_of text ≡ front.BigNumber count → IsFound text None count
IsFound-big text count e =
    let here = subst (IsFront text) e (front_is text) in
    IsFound-front text None count (ap longest_of e) here.0 here.1 (inr here.1)
