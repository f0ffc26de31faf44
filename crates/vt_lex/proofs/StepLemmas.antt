use Rattle.std.proofs.Common.{◌≡◌, ℕ, ◌+◌, ◌<◌, false, List, [], ◌∷◌, ◌++◌, length, take, drop, refl, sym, ap, subst, ◌∙◌, arith, length-append, take-append-drop, append-nil}
use Rattle.std.proofs.lemmas.Str.{encodes-append}
use Rattle.vt_lex.specs.declared.span.Span.{Span}
use Rattle.vt_lex.specs.declared.token.Token.{Token}
use Rattle.vt_lex.specs.declared.token.TokenKind.{TokenKind}
use Rattle.vt_lex.specs.declared.fault.LexFault.{LexFault}
use Rattle.vt_lex.specs.declared.fault.LexFault.TheVariants.{BadCharacter, OpenString, BigNumber}
use Rattle.vt_lex.specs.declared.pieces.Front.TheVariants as front
use Rattle.vt_lex.specs.Lexing.{byte_count, HasNoPiece, IsGap, Lexes, token, Misses, later, big_number, open_string, bad_character}
use Rattle.vt_lex.specs.Reading.{gap_length, front_of, SkipsGap, IsNext}
use Rattle.vt_lex.proofs.GapLemmas.{taken, gap_length-after, BeginsNoGap-none}
use Rattle.vt_lex.proofs.FrontLemmas.{longest_of}
use Rattle.vt_lex.proofs.FoundLemmas.{front_is, IsFront, piece_length, HasNoPiece-front, IsFound-token, IsFound-big}

-- One step of the lexer: a gap and what stands after it.

-- the bytes of characters in a row
pub byte_count-append : (xs ys : List ℕ) → byte_count (xs ++ ys) ≡ byte_count xs + byte_count ys
byte_count-append xs ys = ap length (encodes-append xs ys) ∙ length-append _ _

-- the bytes of the front and of the rest
pub byte_count-split : (n : ℕ) (cs : List ℕ) → byte_count (take n cs) + byte_count (drop n cs) ≡ byte_count cs
byte_count-split n cs = sym (byte_count-append (take n cs) (drop n cs)) ∙ ap byte_count (take-append-drop n cs)

-- what is counted as a gap is skipped
pub SkipsGap-counted : (at : ℕ) (text : List ℕ) → SkipsGap at text (drop (gap_length false text) text) (at + byte_count (take (gap_length false text) text))
SkipsGap-counted at text = record {
  gap = take (gap_length false text) text;
  splits = sym (take-append-drop (gap_length false text) text);
  is_gap = taken false text;
  whole = gap_length-after false text;
  start_is = refl;
}

-- a token that is read is the next one
pub IsNext-token : (at : ℕ) (text rest : List ℕ) (start : ℕ) (k : TokenKind) (count : ℕ) → SkipsGap at text rest start → front_of rest ≡ front.Token k count
    → IsNext at text (record { kind = k; span = record { start = start; end = start + byte_count (take count rest) } }) (drop count rest)
IsNext-token at text rest start k count h e =
    let read = IsFound-token rest k count e in
    let joined = sym (take-append-drop count rest) in
    record {
      gap = h.gap;
      piece = take count rest;
      splits = h.splits ∙ ap (λ t. h.gap ++ t) joined;
      is_gap = subst (IsGap h.gap) joined h.is_gap;
      is_longest = read.longest;
      spelled = read.reads;
      span = ap (λ n. let span : Span = record { start = n; end = n + byte_count (take count rest) } in span) h.start_is;
    }

-- nothing is left after the gap
pub IsGap-nothing : (at : ℕ) (text rest : List ℕ) (start : ℕ) → SkipsGap at text rest start → front_of rest ≡ front.Nothing → IsGap text []
IsGap-nothing at text rest start h e =
    let none : rest ≡ [] = subst (IsFront rest) e (front_is rest) in
    let whole : text ≡ h.gap = h.splits ∙ ap (λ t. h.gap ++ t) none ∙ append-nil h.gap in
    subst (λ t. IsGap t []) (sym whole) (subst (IsGap h.gap) none h.is_gap)

-- a miss at what is skipped to
miss_after : (at : ℕ) (text rest : List ℕ) (start : ℕ) (fault : ℕ → LexFault) (h : SkipsGap at text rest start) → Misses at (h.gap ++ rest) (fault (at + byte_count h.gap)) → Misses at text (fault start)
miss_after at text rest start fault h miss =
    subst (λ t. Misses at t (fault start)) (sym h.splits) (subst (λ n. Misses at (h.gap ++ rest) (fault n)) (sym h.start_is) miss)

-- a number that is too large is the miss
pub Misses-big : (at : ℕ) (text rest : List ℕ) (start count : ℕ) → SkipsGap at text rest start → front_of rest ≡ front.BigNumber count
    → Misses at text (BigNumber (record { start = start; end = start + byte_count (take count rest) }))
Misses-big at text rest start count h e =
    let read = IsFound-big rest count e in
    let joined = take-append-drop count rest in
    let fault : ℕ → LexFault = λ n. BigNumber (record { start = n; end = n + byte_count (take count rest) }) in
    let miss = big_number at h.gap (take count rest) (drop count rest) (subst (IsGap h.gap) (sym joined) h.is_gap) read.longest read.reads in
    miss_after at text rest start fault h (subst (λ t. Misses at (h.gap ++ t) (fault (at + byte_count h.gap))) joined miss)

-- a string that is not closed is the miss
pub Misses-open : (at : ℕ) (text rest : List ℕ) (start : ℕ) → SkipsGap at text rest start → front_of rest ≡ front.OpenString → Misses at text (OpenString start)
Misses-open at text rest start h e =
    let quote = subst (IsFront rest) e (front_is rest) in
    let none = HasNoPiece-front rest (ap longest_of e) in
    let miss = open_string at h.gap quote.0 (subst (IsGap h.gap) quote.1 h.is_gap) (subst HasNoPiece quote.1 none) in
    miss_after at text rest start OpenString h (subst (λ t. Misses at (h.gap ++ t) (OpenString (at + byte_count h.gap))) (sym quote.1) miss)

-- a character that begins nothing is the miss
pub Misses-bad : (at : ℕ) (text rest : List ℕ) (start : ℕ) → SkipsGap at text rest start → front_of rest ≡ front.BadCharacter → Misses at text (BadCharacter start)
Misses-bad at text rest start h e =
    let bad = subst (IsFront rest) e (front_is rest) in
    let none = HasNoPiece-front rest (ap longest_of e) in
    let begins = BeginsNoGap-none bad.0 bad.1 (ap (gap_length false) (sym bad.2) ∙ h.whole) in
    let miss = bad_character at h.gap bad.0 bad.1 (subst (IsGap h.gap) bad.2 h.is_gap) begins bad.3 (subst HasNoPiece bad.2 none) in
    miss_after at text rest start BadCharacter h (subst (λ t. Misses at (h.gap ++ t) (BadCharacter (at + byte_count h.gap))) (sym bad.2) miss)

-- the byte after the next token
pub next_end : (at : ℕ) (text : List ℕ) (t : Token) (rest : List ℕ) (next : IsNext at text t rest) → t.span.end ≡ at + byte_count next.gap + byte_count next.piece
next_end at text t rest next = ap (λ span. span.end) next.span

-- the tokens from the next one on
pub Lexes-next : (at : ℕ) (text : List ℕ) (t : Token) (rest : List ℕ) (tokens : List Token) → IsNext at text t rest → Lexes t.span.end rest tokens → Lexes at text (t ∷ tokens)
Lexes-next at text t rest tokens next more =
    rw next.splits (token at next.gap next.piece rest t tokens next.is_gap next.is_longest next.spelled next.span (subst (λ n. Lexes n rest tokens) (next_end at text t rest next) more))

-- a miss after the next token
pub Misses-next : (at : ℕ) (text : List ℕ) (t : Token) (rest : List ℕ) (fault : LexFault) → IsNext at text t rest → Misses t.span.end rest fault → Misses at text fault
Misses-next at text t rest fault next more =
    rw next.splits (later at next.gap next.piece rest t fault next.is_gap next.is_longest next.spelled (subst (λ n. Misses n rest fault) (next_end at text t rest next) more))

-- the bytes after the next token are those that are left
pub next_places : (at : ℕ) (text : List ℕ) (t : Token) (rest : List ℕ) → IsNext at text t rest → t.span.end + byte_count rest ≡ at + byte_count text
next_places at text t rest next =
    omega (arith, next_end at text t rest next, ap byte_count next.splits, byte_count-append next.gap (next.piece ++ rest), byte_count-append next.piece rest)

-- the next token has some characters
pub next_shorter : (at : ℕ) (text : List ℕ) (t : Token) (rest : List ℕ) → IsNext at text t rest → length rest < length text
next_shorter at text t rest next =
    omega (arith, piece_length next.piece next.is_longest.piece, ap length next.splits, length-append next.gap (next.piece ++ rest), length-append next.piece rest)
