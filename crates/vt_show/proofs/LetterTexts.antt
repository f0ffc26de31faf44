use Rattle.std.proofs.Common.{◌≡◌, ℕ, suc, ◌+◌, ◌-◌, ◌*◌, ◌/◌, ◌%◌, ◌^◌, ◌<◌, ◌≤◌, ◌==◌, ◌&&◌, true, false, not, List, [], ◌∷◌, ◌++◌, map, take, length, get_or, refl, ap, sym, ◌∙◌, arith, eqb-true, append_assoc, Some, inl, inr, lit≤, one-add}
use Rattle.std.specs.List.{prefix_len}
use Rattle.std.specs.Int.Digits.{digits_of, number_from_digits, number_from_digits_after, AllBelowBase}
use Rattle.std.specs.Fmt.{decimal}
use Rattle.std.proofs.lemmas.Bool.{cases_Bool, cases_lt, and_parts, not-true}
use Rattle.std.proofs.lemmas.Bool.Decides.{nat_tests}
use Rattle.std.proofs.lemmas.Fmt.{decimal_by_steps}
use Rattle.std.proofs.lemmas.Int.Digits.{digits_of_step, all_below_base_digits_of, first_digits_of, number_digits_of}
use Rattle.std.proofs.lemmas.List.{append-nil, map-append}
use Rattle.std.proofs.lemmas.Option.{none-some, cond_some}
use Rattle.vt_type.specs.Text.{letter}
use Rattle.vt_show.specs.Steps.{is_digit, is_small_letter, has_zero, letter_length}

-- A text is the letter of just one number.

-- no digit stands at the front
abbrev pub EndsLetter : List ℕ → Type 0
EndsLetter [] = Unit {0}
EndsLetter (byte ∷ rest) = is_digit byte ≡ false

abbrev pub digit_text : ℕ → ℕ
digit_text digit = 48 + digit

-- the digits at the front
prefix_of_digits : (digits rest : List ℕ) → AllBelowBase 10 digits → EndsLetter rest → prefix_len is_digit (map digit_text digits ++ rest) ≡ length (map digit_text digits)
prefix_of_digits [] [] h ends = refl
prefix_of_digits [] (byte ∷ rest) h ends = rw ends refl
prefix_of_digits (digit ∷ digits) rest h ends =
    let here : is_digit (48 + digit) ≡ true = grind (arith, nat_tests, h.0) in
    let more = prefix_of_digits digits rest h.1 ends in
    rw here (omega (arith, more))

-- no zero at the front of digits whose first is none
no_zero : (digits rest : List ℕ) → (0 < length digits → 0 < get_or digits 0 0) → EndsLetter rest → has_zero (map digit_text digits ++ rest) ≡ false
no_zero [] [] h ends = refl
no_zero [] (byte ∷ rest) h ends = grind (arith, nat_tests, ends)
no_zero (digit ∷ digits) rest h ends = let first = h (omega arith) in grind (arith, nat_tests, first)

small_letter : (n : ℕ) → is_small_letter (97 + n % 26) ≡ true
small_letter n = grind (arith, nat_tests)

-- the digits of a number do not begin with a zero
first_digit : (n : ℕ) → 0 < length (digits_of 10 n) → 0 < get_or (digits_of 10 n) 0 0
first_digit n some = elim (cases_lt 0 n) [
  | inl h ↦ first_digits_of 10 n (lit≤ tt) h
  | inr h ↦ (let none : n ≡ 0 = omega arith in absurd (omega (arith, rw none at some)))
]

-- the letter at the front, where no digit follows it
pub letter_length-front : (n : ℕ) (rest : List ℕ) → EndsLetter rest → letter_length (letter n ++ rest) ≡ Some (length (letter n))
letter_length-front n rest ends =
    let digits = digits_of 10 (n / 26) in
    let zero_free = no_zero digits rest (first_digit (n / 26)) ends in
    let long = prefix_of_digits digits rest (all_below_base_digits_of 10 (n / 26) (lit≤ tt)) ends in
    rw (small_letter n, zero_free, long) (ap Some (omega arith))

-- digits after the digits of a number, which is not 0, are those of a number
digits_of-after : (n : ℕ) (digits : List ℕ) → 0 < n → AllBelowBase 10 digits → digits_of 10 (number_from_digits_after 10 n digits) ≡ digits_of 10 n ++ digits
digits_of-after n [] h below = sym (append-nil (digits_of 10 n))
digits_of-after n (digit ∷ digits) h below =
    let more = digits_of-after (n * 10 + digit) digits (omega arith) below.1 in
    let step = digits_of_step 10 (n * 10 + digit) (lit≤ tt) (omega arith) in
    let small = below.0 in
    let front : (n * 10 + digit) / 10 ≡ n = omega (arith, small) in
    let last : (n * 10 + digit) % 10 ≡ digit = omega (arith, small) in
    more ∙ ap (λ t. t ++ digits) (step ∙ (λ j. digits_of 10 (front j) ++ last j ∷ [])) ∙ append_assoc (digits_of 10 n) (digit ∷ []) digits

-- digits that do not begin with a zero are those of a number
pub digits_of-number : (digits : List ℕ) → AllBelowBase 10 digits → (0 < length digits → 0 < get_or digits 0 0) → digits_of 10 (number_from_digits 10 digits) ≡ digits
digits_of-number [] below first = refl
digits_of-number (digit ∷ digits) below first =
    let positive = first (omega arith) in
    let small = below.0 in
    let more = digits_of-after (0 * 10 + digit) digits (omega (arith, positive)) below.1 in
    let step = digits_of_step 10 (0 * 10 + digit) (lit≤ tt) (omega (arith, positive)) in
    let front : (0 * 10 + digit) / 10 ≡ 0 = omega (arith, small) in
    let last : (0 * 10 + digit) % 10 ≡ digit = omega (arith, small) in
    more ∙ ap (λ t. t ++ digits) (step ∙ (λ j. digits_of 10 (front j) ++ last j ∷ []))

-- the digits that stand at the front of a text
abbrev digits_in : List ℕ → List ℕ
digits_in text = map (λ byte. byte - 48) (take (prefix_len is_digit text) text)

digits_in-below : (text : List ℕ) → AllBelowBase 10 (digits_in text)
digits_in-below [] = tt
digits_in-below (byte ∷ text) = elim (cases_Bool (is_digit byte)) [
  | inl e ↦ rw (e, one-add) (grind (arith, nat_tests, e), digits_in-below text)
  | inr e ↦ rw e tt
]

digits_in-text : (text : List ℕ) → map digit_text (digits_in text) ≡ take (prefix_len is_digit text) text
digits_in-text [] = refl
digits_in-text (byte ∷ text) = elim (cases_Bool (is_digit byte)) [
  | inl e ↦ (let same : 48 + (byte - 48) ≡ byte = grind (arith, nat_tests, e) in rw (e, one-add) (λ j. same j ∷ digits_in-text text j))
  | inr e ↦ rw e refl
]

digits_in-first : (text : List ℕ) → has_zero text ≡ false → 0 < length (digits_in text) → 0 < get_or (digits_in text) 0 0
digits_in-first [] h some = absurd (omega (arith, some))
digits_in-first (byte ∷ text) h some = elim (cases_Bool (is_digit byte)) [
  | inl e ↦ rw (e, one-add) (grind (arith, nat_tests, e, h))
  | inr e ↦ absurd (omega (arith, rw e at some))
]

-- a letter at the front is that of a number
pub letter_length-read : (text : List ℕ) (long : ℕ) → letter_length text ≡ Some long → (n : ℕ) × (take long text ≡ letter n)
letter_length-read [] long h = absurd (none-some long h)
letter_length-read (quote ∷ []) long h = absurd (none-some long h)
letter_length-read (quote ∷ small ∷ text) long h =
    let read = cond_some (quote == 39 && is_small_letter small && not (has_zero text)) (2 + prefix_len is_digit text) long h in
    let tests = and_parts (quote == 39 && is_small_letter small) _ read.0 in
    let front = and_parts (quote == 39) _ tests.0 in
    let number = number_from_digits 10 (digits_in text) in
    let n = 26 * number + (small - 97) in
    let zero_free : has_zero text ≡ false = not-true _ tests.1 in
    let lower : is_small_letter small ≡ true = front.1 in
    let in_front : 97 + n % 26 ≡ small = grind (arith, nat_tests, lower) in
    let left : n / 26 ≡ number = grind (arith, nat_tests, lower) in
    let spelled = digits_of-number (digits_in text) (digits_in-below text) (digits_in-first text zero_free) in
    let digits : map digit_text (digits_of 10 (n / 26)) ≡ take (prefix_len is_digit text) text = rw (left, spelled) (digits_in-text text) in
    let long_is : 2 + prefix_len is_digit text ≡ suc (suc (prefix_len is_digit text)) = omega arith in
    (n, rw (← read.1) (rw (eqb-true quote 39 front.0, in_front, digits) (ap (λ m. take m (39 ∷ small ∷ text)) long_is)))

-- the number of a letter, as a name
abbrev pub number_name : List ℕ → List ℕ
number_name (quote ∷ small ∷ digits) = (26 * number_from_digits 10 (map (λ byte. byte - 48) digits) + (small - 97)) ∷ []
number_name name = name

digits_again : (digits : List ℕ) → map (λ byte. byte - 48) (map digit_text digits) ≡ digits
digits_again [] = refl
digits_again (digit ∷ digits) = let same : 48 + digit - 48 ≡ digit = omega arith in λ j. same j ∷ digits_again digits j

-- the number of a letter is the one that it was made of
pub number_name-letter : (n : ℕ) → number_name (letter n) ≡ n ∷ []
number_name-letter n =
    let whole : 26 * (n / 26) + (97 + n % 26 - 97) ≡ n = omega arith in
    rw (digits_again (digits_of 10 (n / 26)), number_digits_of 10 (n / 26) (lit≤ tt), whole) refl

-- the digits that a number is written with
pub decimal-digits : (n : ℕ) → 0 < n → n < 2 ^ 64 → decimal n ≡ map digit_text (digits_of 10 n)
decimal-digits n positive fits = decimal_by_steps (λ n text. 0 < n → text ≡ map digit_text (digits_of 10 n)) one more n fits positive
  where
    one : (n : ℕ) → n < 10 → 0 < n → (48 + n) ∷ [] ≡ map digit_text (digits_of 10 n)
    one n small positive =
        let front : n / 10 ≡ 0 = omega arith in
        let last : n % 10 ≡ n = omega arith in
        sym (ap (map digit_text) (digits_of_step 10 n (lit≤ tt) positive ∙ (λ j. digits_of 10 (front j) ++ last j ∷ [])))

    more : (n : ℕ) (text : List ℕ) → 10 ≤ n → (0 < n / 10 → text ≡ map digit_text (digits_of 10 (n / 10))) → 0 < n → text ++ ((48 + n % 10) ∷ []) ≡ map digit_text (digits_of 10 n)
    more n text large h positive =
        ap (λ t. t ++ ((48 + n % 10) ∷ [])) (h (omega arith))
        ∙ sym (ap (map digit_text) (digits_of_step 10 n (lit≤ tt) positive) ∙ map-append digit_text (digits_of 10 (n / 10)) (n % 10 ∷ []))
