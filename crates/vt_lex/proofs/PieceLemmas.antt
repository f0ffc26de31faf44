use Rattle.std.proofs.Common.{◌≡◌, ◌≢◌, ℕ, ◌≤◌, ◌==◌, Bool, true, false, inl, inr, List, [], ◌∷◌, ◌++◌, length, take, Some, refl, arith, one-add}
use Rattle.std.specs.Bool.{Decides}
use Rattle.std.specs.Char.{is_ascii_digit}
use Rattle.std.specs.List.{prefix_len, take_while}
use Rattle.std.proofs.lemmas.Bool.{cond_both}
use Rattle.std.proofs.lemmas.Bool.Decides.{nat_tests}
use Rattle.std.proofs.lemmas.List.Sums.{prefix_len-le-length, take_while-cons}
use Rattle.unicode_ident.specs.Ident.{is_xid_continue}
use Rattle.vt_lex.specs.Tokens.{IsDigit, AreDigits, IsStringRest, IsNameStart, AreNameParts, IsWord}
use Rattle.vt_lex.specs.Lexing.{IsBlank}
use Rattle.vt_lex.specs.Reading.{is_blank, is_name_start, word_length, string_length}

-- The runs of characters that pieces are made of.

-- the test of a digit
pub digit_test : (c : ℕ) → Decides (is_ascii_digit c) (IsDigit c)
digit_test c = grind (arith, nat_tests)

-- the test of a blank
pub blank_test : (c : ℕ) → Decides (is_blank c) (IsBlank c)
blank_test c = grind (arith, nat_tests)

-- the test of a name's first character
pub start_test : (c : ℕ) → Decides (is_name_start c) (IsNameStart c)
start_test c = grind (arith, nat_tests)

-- digits at the front are digits
pub AreDigits-front : (cs : List ℕ) → AreDigits (take_while is_ascii_digit cs)
AreDigits-front [] = tt
AreDigits-front (c ∷ cs) = rw take_while-cons (cond_both (is_ascii_digit c) _ _ AreDigits (λ e. ((digit_test c).0 e, AreDigits-front cs)) (λ e. tt))

-- parts of names at the front are parts of names
pub AreNameParts-front : (cs : List ℕ) → AreNameParts (take_while is_xid_continue cs)
AreNameParts-front [] = tt
AreNameParts-front (c ∷ cs) = rw take_while-cons (cond_both (is_xid_continue c) _ _ AreNameParts (λ e. (e, AreNameParts-front cs)) (λ e. tt))

-- there are as many digits at the front as one sees, or more
pub digits-within : (front rest : List ℕ) → AreDigits front → length front ≤ prefix_len is_ascii_digit (front ++ rest)
digits-within [] rest h = omega arith
digits-within (c ∷ front) rest h = rw ((digit_test c).1 h.0) (let more = digits-within front rest h.1 in omega arith)

-- there are as many parts of names at the front as one sees, or more
pub parts-within : (front rest : List ℕ) → AreNameParts front → length front ≤ prefix_len is_xid_continue (front ++ rest)
parts-within [] rest h = omega arith
parts-within (c ∷ front) rest h = rw h.0 (let more = parts-within front rest h.1 in omega arith)

-- a word at the front is as long as it is seen, or longer
pub word-within : (front rest : List ℕ) → IsWord front → length front ≤ word_length (front ++ rest)
word-within [] rest h = absurd h
word-within (c ∷ front) rest h = rw ((start_test c).1 h.0) (let more = parts-within front rest h.1 in omega arith)

-- what is counted as a word is one
pub IsWord-front : (c : ℕ) (cs : List ℕ) → is_name_start c ≡ true → (word_length (c ∷ cs) ≤ length (c ∷ cs)) × IsWord (take (word_length (c ∷ cs)) (c ∷ cs))
IsWord-front c cs e =
    let within = prefix_len-le-length is_xid_continue cs in
    rw (e, one-add) (omega arith, ((start_test c).0 e, AreNameParts-front cs))

-- what a string has after its opening quote, or after a backslash in it
abbrev pub IsAfter : Bool → List ℕ → Type 0
IsAfter false cs = IsStringRest cs
IsAfter true [] = ⊥
IsAfter true (c ∷ cs) = (c ≢ 10) × IsStringRest cs

-- the rest of a string is seen up to its quote
pub string_length-rest : (front rest : List ℕ) → IsStringRest front → string_length false (front ++ rest) ≡ Some (length front)
string_length-rest [] rest h = absurd h
string_length-rest (c ∷ []) rest h = rw h refl
string_length-rest (c ∷ d ∷ front) rest (inl h) =
    let no_feed : (d == 10) ≡ false = grind (arith, nat_tests, h.1) in
    rw (h.0, no_feed, string_length-rest front rest h.2, one-add, one-add) refl
string_length-rest (c ∷ d ∷ front) rest (inr h) =
    let no_feed : (c == 10) ≡ false = grind (arith, nat_tests, h) in
    let no_quote : (c == 34) ≡ false = grind (arith, nat_tests, h) in
    let no_escape : (c == 92) ≡ false = grind (arith, nat_tests, h) in
    rw (no_feed, no_quote, no_escape, string_length-rest (d ∷ front) rest h.3, one-add) refl
