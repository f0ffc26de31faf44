use Rattle.std.proofs.Common.{◌≡◌, ℕ, ◌+◌, ◌<◌, ◌≤◌, List, [], ◌∷◌, ◌++◌, length, slice_index, refl, sym, ap, subst, ◌∙◌, arith, IsTrue, IsCharBoundary, encode_utf8_all, length-append, append_assoc, All, AllPairs}
use Rattle.std.specs.Str.{all_scalars}
use Rattle.std.proofs.lemmas.Bool.{and_parts}
use Rattle.std.proofs.lemmas.List.{get_or_at}
use Rattle.std.proofs.lemmas.List.Elements.{All-nil, All-cons, All-weaker}
use Rattle.std.proofs.lemmas.List.Kept.{AllPairs-cons}
use Rattle.std.proofs.lemmas.Str.{encodes-append, encode_ascii, length-le-encodes, IsCharBoundary-at_seam}
use Rattle.vt_lex.specs.declared.token.Token.{Token}
use Rattle.vt_lex.specs.declared.token.TokenKind.TheVariants as kind
use Rattle.vt_lex.specs.Tokens.{Spelled, IsDimension, at_sign}
use Rattle.vt_lex.specs.Lexing.{byte_count, Lexes, end, token, Misses, later, big_number, open_string, bad_character, IsMissUnless, AreCharactersOf}
use Rattle.vt_lex.specs.declared.fault.LexFault.{LexFault}
use Rattle.vt_lex.specs.declared.fault.LexFault.TheVariants.{BadCharacter, OpenString, BigNumber, Memory}
use Rattle.vt_lex.specs.Spans.{IsSpanIn, AreNotEmpty, BeginsWithAt, BeginWithAt, IsPlaceIn, LiesIn}
use Rattle.vt_lex.proofs.FoundLemmas.{piece_length}

-- Where the tokens of a text stand in its bytes.

-- The characters stand at the end of the text, from this byte on.
pub record IsRest (text : List ℕ) (at : ℕ) (cs : List ℕ) : Type 0 where
  pub before : List ℕ
  pub whole : text ≡ before ++ encode_utf8_all cs
  pub place : length before ≡ at
  pub scalars : IsTrue (all_scalars cs)

-- the later ones of some scalar values
all_scalars-rest : (xs ys : List ℕ) → IsTrue (all_scalars (xs ++ ys)) → IsTrue (all_scalars ys)
all_scalars-rest [] ys h = h
all_scalars-rest (x ∷ xs) ys h = all_scalars-rest xs ys (and_parts _ _ h).1

-- the characters after some of them
rest_after : (text : List ℕ) (at : ℕ) (xs ys : List ℕ) → IsRest text at (xs ++ ys) → IsRest text (at + byte_count xs) ys
rest_after text at xs ys h = record {
  before = h.before ++ encode_utf8_all xs;
  whole = h.whole ∙ ap (λ t. h.before ++ t) (encodes-append xs ys) ∙ sym (append_assoc h.before _ _);
  place = length-append h.before (encode_utf8_all xs) ∙ ap (λ n. n + byte_count xs) h.place;
  scalars = all_scalars-rest xs ys h.scalars;
}

-- a text may be cut where characters begin
boundary : (text : List ℕ) (at : ℕ) (cs : List ℕ) → IsRest text at cs → IsCharBoundary text at
boundary text at cs h = subst (IsCharBoundary text) h.place (IsCharBoundary-at_seam text h.before (encode_utf8_all cs) h.whole (cs, (h.scalars, refl)))

-- the characters stand in the text
within : (text : List ℕ) (at : ℕ) (cs : List ℕ) → IsRest text at cs → at ≤ length text
within text at cs h = omega (arith, ap length h.whole, length-append h.before (encode_utf8_all cs), h.place)

-- an ASCII character is the byte where it stands
byte_at : (text : List ℕ) (at c : ℕ) (cs : List ℕ) → c < 128 → IsRest text at (c ∷ cs) → slice_index text at ≡ c
byte_at text at c cs low h =
    let whole : text ≡ h.before ++ c ∷ encode_utf8_all cs = h.whole ∙ ap (λ b. h.before ++ (b ++ encode_utf8_all cs)) (encode_ascii c low) in
    rw whole (get_or_at h.before c (encode_utf8_all cs) 0 at h.place)

-- what is said of the spans of tokens from this byte on
pub record SpansFrom (text : List ℕ) (at : ℕ) (tokens : List Token) : Type 0 where
  pub inside : All (λ t. IsSpanIn text t.span) tokens
  pub nonempty : AreNotEmpty tokens
  pub later : All (λ t. at ≤ t.span.start) tokens
  pub ordered : AllPairs (λ t u. t.span.end ≤ u.span.start) tokens
  pub dimensions : BeginWithAt text tokens

-- a dimension begins with its at sign
sign_at : (text : List ℕ) (at : ℕ) (cs rest : List ℕ) → IsDimension cs → IsRest text at (cs ++ rest) → slice_index text at ≡ at_sign
sign_at text at [] rest h here = absurd h
sign_at text at (c ∷ cs) rest h here = byte_at text at c (cs ++ rest) (rw h.0 (omega arith)) here ∙ h.0

-- the spans of the tokens of what is left
pub spans_from : (text : List ℕ) (at : ℕ) (cs : List ℕ) (tokens : List Token) → Lexes at cs tokens → IsRest text at cs → SpansFrom text at tokens
spans_from text _ _ _ (end at gap is_gap) here = record {
  inside = All-nil (λ t. IsSpanIn text t.span);
  nonempty = All-nil (λ t. t.span.start < t.span.end);
  later = All-nil (λ t. at ≤ t.span.start);
  ordered = λ i j d before in_range. absurd (omega arith);
  dimensions = All-nil (λ t. t.kind ≡ kind.Dim → BeginsWithAt text t.span);
}
spans_from text _ _ _ (token at gap cs rest t tokens is_gap longest spelled span more) here =
    let first = rest_after text at gap (cs ++ rest) here in
    let second = rest_after text (at + byte_count gap) cs rest first in
    let others = spans_from text (at + byte_count gap + byte_count cs) rest tokens more second in
    let starts : t.span.start ≡ at + byte_count gap = ap (λ s. s.start) span in
    let ends : t.span.end ≡ at + byte_count gap + byte_count cs = ap (λ s. s.end) span in
    let size = length-le-encodes cs in
    let some = piece_length cs longest.piece in
    record {
      inside = All-cons (λ t. IsSpanIn text t.span) t tokens (record {
        ordered = omega arith;
        within = omega (arith, within text _ rest second);
        starts = rw starts (boundary text _ _ first);
        ends = rw ends (boundary text _ _ second);
      }) others.inside;
      nonempty = All-cons (λ t. t.span.start < t.span.end) t tokens (omega arith) others.nonempty;
      later = All-cons (λ t. at ≤ t.span.start) t tokens (omega arith) (All-weaker (λ u. at + byte_count gap + byte_count cs ≤ u.span.start) (λ u. at ≤ u.span.start) (λ u h. omega arith) tokens others.later);
      ordered = AllPairs-cons (λ t u. t.span.end ≤ u.span.start) t tokens (rw ends others.later) others.ordered;
      dimensions = All-cons (λ t. t.kind ≡ kind.Dim → BeginsWithAt text t.span) t tokens (λ dimension. record {
        nonempty = omega arith;
        sign = rw starts (sign_at text _ cs rest (subst (λ k. Spelled k cs) dimension spelled) first);
      }) others.dimensions;
    }

-- the spans of the tokens of a text
pub spans_of : (text cs : List ℕ) (tokens : List Token) → AreCharactersOf text cs → Lexes 0 cs tokens → SpansFrom text 0 tokens
spans_of text cs tokens are lexes = spans_from text 0 cs tokens lexes (record { before = []; whole = sym are.encoded; place = refl; scalars = are.scalars })

-- where characters are left, their place lies in the text
place_in : (text : List ℕ) (at c : ℕ) (cs : List ℕ) → IsRest text at (c ∷ cs) → IsPlaceIn text at
place_in text at c cs h =
    let size = length-le-encodes (c ∷ cs) in
    record {
      before_end = omega (arith, ap length h.whole, length-append h.before (encode_utf8_all (c ∷ cs)), h.place, size);
      boundary = boundary text at (c ∷ cs) h;
    }

-- the same of a piece and what follows
piece_place : (text : List ℕ) (at : ℕ) (cs rest : List ℕ) → 0 < length cs → IsRest text at (cs ++ rest) → IsPlaceIn text at
piece_place text at [] rest some h = absurd (omega arith)
piece_place text at (c ∷ cs) rest some h = place_in text at c (cs ++ rest) h

-- the fault of what is left lies in the text
pub misses_lie : (text : List ℕ) (at : ℕ) (cs : List ℕ) (fault : LexFault) → Misses at cs fault → IsRest text at cs → LiesIn text fault
misses_lie text _ _ _ (later at gap cs rest t fault is_gap longest spelled more) here =
    misses_lie text (at + byte_count gap + byte_count cs) rest fault more (rest_after text (at + byte_count gap) cs rest (rest_after text at gap (cs ++ rest) here))
misses_lie text _ _ _ (big_number at gap cs rest is_gap longest big) here = piece_place text _ cs rest (piece_length cs longest.piece) (rest_after text at gap (cs ++ rest) here)
misses_lie text _ _ _ (open_string at gap rest is_gap none) here = place_in text _ 34 rest (rest_after text at gap (34 ∷ rest) here)
misses_lie text _ _ _ (bad_character at gap c rest is_gap begins differs none) here = place_in text _ c rest (rest_after text at gap (c ∷ rest) here)

-- the fault of a text lies in it
pub fault_lies : (text cs : List ℕ) (fault : LexFault) → AreCharactersOf text cs → IsMissUnless 0 cs fault → LiesIn text fault
fault_lies text cs (BadCharacter at) are miss = misses_lie text 0 cs (BadCharacter at) miss (record { before = []; whole = sym are.encoded; place = refl; scalars = are.scalars })
fault_lies text cs (OpenString at) are miss = misses_lie text 0 cs (OpenString at) miss (record { before = []; whole = sym are.encoded; place = refl; scalars = are.scalars })
fault_lies text cs (BigNumber span) are miss = misses_lie text 0 cs (BigNumber span) miss (record { before = []; whole = sym are.encoded; place = refl; scalars = are.scalars })
fault_lies text cs Memory are miss = tt

-- each token takes a byte
pub token_count : (at : ℕ) (cs : List ℕ) (tokens : List Token) → Lexes at cs tokens → length tokens ≤ byte_count cs
token_count _ _ _ (end at gap is_gap) = omega arith
token_count _ _ _ (token at gap cs rest t tokens is_gap longest spelled span more) =
    let others = token_count (at + byte_count gap + byte_count cs) rest tokens more in
    let size = length-le-encodes cs in
    let some = piece_length cs longest.piece in
    let outer = ap length (encodes-append gap (cs ++ rest)) in
    let inner = ap length (encodes-append cs rest) in
    omega (arith, outer, inner, length-append (encode_utf8_all gap) (encode_utf8_all (cs ++ rest)), length-append (encode_utf8_all cs) (encode_utf8_all rest))
