use Rattle.std.proofs.Common.{◌≡◌, ◌≢◌, ℕ, zero, suc, ◌+◌, ◌-◌, ◌<◌, ◌≤◌, ◌==◌, true, false, cond, ◌⊎◌, inl, inr, List, [], ◌∷◌, ◌++◌, length, take, drop, Option, Some, None, Result, Ok, Err, refl, sym, ap, ◌∙◌, arith, eq-eqb, take_at, drop_at, append_assoc, append-nil, length-append, length-take-le, take-append-drop}
use Rattle.std.proofs.Math.Seq.{take-append-add}
use Rattle.std.proofs.lemmas.Bool.{cases_Bool, cases_lt}
use Rattle.std.proofs.lemmas.Bool.Decides.{nat_tests}
use Rattle.unicode_ident.proofs.Computing.{unicode_ident}
use Rattle.vt_lex.specs.declared.token.Token.{Token}
use Rattle.vt_lex.specs.declared.token.TokenKind.{TokenKind}
use Rattle.vt_lex.specs.declared.fault.LexFault.{LexFault}
use Rattle.vt_lex.specs.declared.fault.LexFault.TheVariants.{BadCharacter, OpenString, BigNumber, Memory}
use Rattle.vt_lex.specs.declared.pieces.Front.{Front}
use Rattle.vt_lex.specs.declared.pieces.Front.TheVariants as front
use Rattle.vt_lex.specs.Tokens.{IsPiece}
use Rattle.vt_lex.specs.Lexing.{byte_count, IsBlank, BeginsNoGap, IsOnOneLine, EndsLine, IsGap, nothing, blank, comment, IsLongest, HasNoPiece, Lexes, end, token, Misses, later, big_number, open_string, bad_character, HasOneReading, HasOneMiss, NeverReadsAndMisses}
use Rattle.vt_lex.specs.Reading.{is_blank, gap_length, front_of}
use Rattle.vt_lex.proofs.PieceLemmas.{blank_test}
use Rattle.vt_lex.proofs.FrontLemmas.{longest_of, found, Reads, piece_reaches, piece_some}
use Rattle.vt_lex.proofs.FoundLemmas.{IsFront, front_is, piece_length, piece_within}

-- Characters have one reading: each list of tokens and each miss is the one that is read.

-- a comment ends where a line ends
comment_length : (line rest : List ℕ) → IsOnOneLine line → EndsLine rest → gap_length true (line ++ rest) ≡ length line + gap_length false rest
comment_length [] [] one ends = omega arith
comment_length [] (c ∷ rest) one ends = rw ends (omega arith)
comment_length (c ∷ line) rest one ends =
    let inside : (c == 10) ≡ false = grind (arith, nat_tests, one.0) in
    rw inside (let more = comment_length line rest one.1 ends in omega arith)

-- a gap is counted, and what follows it
gap_length-skip : (gap rest : List ℕ) → IsGap gap rest → gap_length false (gap ++ rest) ≡ length gap + gap_length false rest
gap_length-skip _ _ (nothing rest) = omega arith
gap_length-skip _ _ (blank c gap rest b h) =
    let no_comment : (c == 35) ≡ false = grind (arith, nat_tests, b) in
    rw (no_comment, (blank_test c).1 b) (let more = gap_length-skip gap rest h in omega arith)
gap_length-skip _ _ (comment line gap rest one ends h) =
    rw (append_assoc line gap rest) (
    let more = gap_length-skip gap rest h in
    let line_length = comment_length line (gap ++ rest) one ends in
    omega (arith, length-append line gap))

-- no piece begins with what a gap begins with
gap_front : (c : ℕ) (cs : List ℕ) → IsBlank c ⊎ (c ≡ 35) → longest_of (front_of (c ∷ cs)) ≡ 0
unfolding unicode_ident
gap_front c cs (inl (inl e)) = rw e refl
gap_front c cs (inl (inr (inl e))) = rw e refl
gap_front c cs (inl (inr (inr (inl e)))) = rw e refl
gap_front c cs (inl (inr (inr (inr e)))) = rw e refl
gap_front c cs (inr e) = rw e refl

-- no gap is counted where none begins
gap_length-begins : (c : ℕ) (cs : List ℕ) → BeginsNoGap c → gap_length false (c ∷ cs) ≡ 0
gap_length-begins c cs (no_blank, no_comment) =
    let comment : (c == 35) ≡ false = grind (arith, nat_tests) in
    elim (cases_Bool (is_blank c)) [
      | inl e ↦ absurd (no_blank ((blank_test c).0 e))
      | inr e ↦ rw (comment, e) refl
    ]

-- no gap is counted where a piece begins
gap_length-piece : (piece rest : List ℕ) → IsPiece piece → gap_length false (piece ++ rest) ≡ 0
gap_length-piece [] rest h = absurd (omega (arith, piece_length [] h))
gap_length-piece (c ∷ cs) rest h =
    let within = piece_within (c ∷ cs) rest _ refl h in
    gap_length-begins c (cs ++ rest) (
      (λ b. omega (arith, within, gap_front c (cs ++ rest) (inl b))),
      (λ e. omega (arith, within, gap_front c (cs ++ rest) (inr e))),
    )

-- what is read at the front is a piece, where it has some characters
piece_of : (text : List ℕ) (f : Front) → IsFront text f → 0 < longest_of f → (longest_of f ≤ length text) × IsPiece (take (longest_of f) text)
piece_of text front.Nothing h some = absurd (omega arith)
piece_of text (front.Token k count) h some = (h.0, inl (k, h.1))
piece_of text (front.BigNumber count) h some = (h.0, inr h.1)
piece_of text front.OpenString h some = absurd (omega arith)
piece_of text front.BadCharacter h some = absurd (omega arith)

-- the longest piece is read
front_of-longest : (what : Option TokenKind) (cs rest : List ℕ) → IsLongest cs rest → Reads what cs → front_of (cs ++ rest) ≡ found what (length cs)
front_of-longest what cs rest longest reads =
    let text = cs ++ rest in
    let count = longest_of (front_of text) in
    let reaches = piece_reaches what cs rest reads in
    elim (cases_lt (length cs) count) [
      | inl more ↦
          let size = count - length cs in
          let piece = piece_of text (front_of text) (front_is text) (omega arith) in
          let same : count ≡ length cs + size = omega arith in
          let longer = rw (same, take-append-add cs rest size) at piece.1 in
          let some : take size rest ≢ [] = λ none. omega (arith, ap length none, length-take-le size rest (omega (arith, piece.0, length-append cs rest))) in
          absurd (longest.longest (take size rest) (drop size rest) some (take-append-drop size rest) longer)
      | inr less ↦ reaches.exact (omega (arith, reaches.within))
    ]

-- where no piece stands a fault is read
no_front : (f : Front) (c : ℕ) (rest : List ℕ) → IsFront (c ∷ rest) f → longest_of f ≡ 0 → f ≡ cond (c == 34) front.OpenString front.BadCharacter
no_front front.Nothing c rest h none = cc
no_front (front.Token k count) c rest h none = absurd (piece_some (Some k) (rw none at h.1))
no_front (front.BigNumber count) c rest h none = absurd (piece_some None (rw none at h.1))
no_front front.OpenString c rest h none =
    let quote : c ≡ 34 = cc (h.1) in rw (eq-eqb c 34 quote) refl
no_front front.BadCharacter c rest h none =
    let first : c ≡ h.0 = cc (h.2) in
    let other : (c == 34) ≡ false = grind (arith, nat_tests, h.3) in
    rw other refl

front_of-none : (c : ℕ) (rest : List ℕ) → HasNoPiece (c ∷ rest) → front_of (c ∷ rest) ≡ cond (c == 34) front.OpenString front.BadCharacter
front_of-none c rest none = elim (cases_lt 0 (longest_of (front_of (c ∷ rest)))) [
  | inl some ↦
      let piece = piece_of (c ∷ rest) (front_of (c ∷ rest)) (front_is (c ∷ rest)) some in
      absurd (none _ _ (take-append-drop (longest_of (front_of (c ∷ rest))) (c ∷ rest)) piece.1)
  | inr few ↦ no_front (front_of (c ∷ rest)) c rest (front_is (c ∷ rest)) (omega arith)
]

-- tokens, or a fault
abbrev pub Outcome : Type 0
Outcome = Result (List Token) LexFault

-- one more token before what is read
abbrev before : Token → Outcome → Outcome
before t (Ok tokens) = Ok (t ∷ tokens)
before t (Err fault) = Err fault

-- what is read where this stands at the front of the rest, and more is read as given
abbrev read_front : (ℕ → List ℕ → Outcome) → ℕ → List ℕ → Front → Outcome
read_front more start rest front.Nothing = Ok []
read_front more start rest (front.Token k count) =
    before (record { kind = k; span = record { start = start; end = start + byte_count (take count rest) } }) (more (start + byte_count (take count rest)) (drop count rest))
read_front more start rest (front.BigNumber count) = Err (BigNumber (record { start = start; end = start + byte_count (take count rest) }))
read_front more start rest front.OpenString = Err (OpenString start)
read_front more start rest front.BadCharacter = Err (BadCharacter start)

-- what is read of characters in so many steps
abbrev pub read : ℕ → ℕ → List ℕ → Outcome
read zero at text = Err Memory
read (suc steps) at text =
    read_front (read steps) (at + byte_count (take (gap_length false text) text)) (drop (gap_length false text) text) (front_of (drop (gap_length false text) text))

-- after a gap that is followed by none
read-gap : (steps at : ℕ) (gap rest : List ℕ) (outcome : Outcome) → IsGap gap rest → gap_length false rest ≡ 0
    → read_front (read steps) (at + byte_count gap) rest (front_of rest) ≡ outcome → read (suc steps) at (gap ++ rest) ≡ outcome
read-gap steps at gap rest outcome is_gap none e =
    let count : gap_length false (gap ++ rest) ≡ length gap = gap_length-skip gap rest is_gap ∙ omega (arith, none) in
    rw (count, take_at gap rest (length gap) refl, drop_at gap rest (length gap) refl) e

-- after a piece
read-piece : (steps at : ℕ) (what : Option TokenKind) (gap cs rest : List ℕ) (outcome : Outcome) → IsGap gap (cs ++ rest) → IsLongest cs rest → Reads what cs
    → read_front (read steps) (at + byte_count gap) (cs ++ rest) (found what (length cs)) ≡ outcome → read (suc steps) at (gap ++ (cs ++ rest)) ≡ outcome
read-piece steps at what gap cs rest outcome is_gap longest reads e =
    read-gap steps at gap (cs ++ rest) outcome is_gap (gap_length-piece cs rest longest.piece) (rw (front_of-longest what cs rest longest reads) e)

-- where no piece stands
read-none : (steps at : ℕ) (gap : List ℕ) (c : ℕ) (rest : List ℕ) (outcome : Outcome) → IsGap gap (c ∷ rest) → BeginsNoGap c → HasNoPiece (c ∷ rest)
    → read_front (read steps) (at + byte_count gap) (c ∷ rest) (cond (c == 34) front.OpenString front.BadCharacter) ≡ outcome → read (suc steps) at (gap ++ (c ∷ rest)) ≡ outcome
read-none steps at gap c rest outcome is_gap begins none e =
    read-gap steps at gap (c ∷ rest) outcome is_gap (gap_length-begins c rest begins) (rw (front_of-none c rest none) e)

-- the list of tokens is what is read
lexes_read : (steps at : ℕ) (text : List ℕ) (tokens : List Token) → length text < steps → Lexes at text tokens → read steps at text ≡ Ok tokens
lexes_read zero at text tokens enough h = absurd (omega arith)
lexes_read (suc steps) _ _ _ enough (end at gap is_gap) =
    rw append-nil at (read-gap steps at gap [] (Ok []) is_gap refl refl)
lexes_read (suc steps) _ _ _ enough (token at gap cs rest t tokens is_gap longest spelled span more) =
    let fewer : length rest < steps = omega (arith, piece_length cs longest.piece, length-append gap (cs ++ rest), length-append cs rest) in
    let next = lexes_read steps (at + byte_count gap + byte_count cs) rest tokens fewer more in
    read-piece steps at (Some t.kind) gap cs rest (Ok (t ∷ tokens)) is_gap longest spelled
    (rw (take_at cs rest (length cs) refl, drop_at cs rest (length cs) refl, next) (ap (λ s. let u : Token = record { kind = t.kind; span = s } in let o : Outcome = Ok (u ∷ tokens) in o) (sym span)))

-- a first miss is what is read
misses_read : (steps at : ℕ) (text : List ℕ) (fault : LexFault) → length text < steps → Misses at text fault → read steps at text ≡ Err fault
misses_read zero at text fault enough h = absurd (omega arith)
misses_read (suc steps) _ _ _ enough (later at gap cs rest t fault is_gap longest spelled more) =
    let fewer : length rest < steps = omega (arith, piece_length cs longest.piece, length-append gap (cs ++ rest), length-append cs rest) in
    let next = misses_read steps (at + byte_count gap + byte_count cs) rest fault fewer more in
    read-piece steps at (Some t.kind) gap cs rest (Err fault) is_gap longest spelled (rw (take_at cs rest (length cs) refl, drop_at cs rest (length cs) refl, next) refl)
misses_read (suc steps) _ _ _ enough (big_number at gap cs rest is_gap longest big) =
    read-piece steps at None gap cs rest _ is_gap longest big (rw (take_at cs rest (length cs) refl) refl)
misses_read (suc steps) _ _ _ enough (open_string at gap rest is_gap none) =
    read-none steps at gap 34 rest _ is_gap ((λ b. grind (arith, b)), (λ e. omega (arith, e))) none refl
misses_read (suc steps) _ _ _ enough (bad_character at gap c rest is_gap begins other none) =
    let test : (c == 34) ≡ false = grind (arith, nat_tests) in
    read-none steps at gap c rest _ is_gap begins none (rw test refl)

-- characters have no two lists of tokens
pub one_list : HasOneReading
one_list at cs ts us first second =
    let reads_first = lexes_read (length cs + 1) at cs ts (omega arith) first in
    let reads_second = lexes_read (length cs + 1) at cs us (omega arith) second in
    cc

-- characters have no two first misses
pub one_miss : HasOneMiss
one_miss at cs f g first second =
    let reads_first = misses_read (length cs + 1) at cs f (omega arith) first in
    let reads_second = misses_read (length cs + 1) at cs g (omega arith) second in
    cc

-- characters that have tokens have no miss
pub never_both : NeverReadsAndMisses
never_both at cs ts f lexes misses =
    let reads = lexes_read (length cs + 1) at cs ts (omega arith) lexes in
    let refuses = misses_read (length cs + 1) at cs f (omega arith) misses in
    cc
