use Rattle.std.proofs.Common.{◌≡◌, ◌≢◌, ℕ, zero, suc, ◌+◌, ◌-◌, ◌<◌, ◌≤◌, List, length, take, Option, Some, None, Result, Ok, Err, slice_get, refl, sym, ap, subst, ◌∙◌, arith, lit<}
use Rattle.std.specs.Str.{IsValidUpTo, IsUtf8}
use Rattle.std.proofs.lemmas.Option.{same_Some, none-some}
use Rattle.std.proofs.lemmas.Str.{encodes_same}
use Rattle.std.proofs.Math.Seq.{take-length}
use Rattle.vt_lex.specs.declared.token.Token.{Token}
use Rattle.vt_lex.specs.declared.place.LineCol.{LineCol}
use Rattle.vt_lex.specs.declared.fault.LexFault.{LexFault}
use Rattle.vt_lex.specs.declared.fault.LexFault.TheVariants as lex
use Rattle.vt_lex.specs.Lexing.{most_bytes, AreCharactersOf, AreTokensOf, Lexes, Misses}
use Rattle.vt_lex.specs.Places.{IsPlace, place_after}
use Rattle.vt_lex.proofs.OneReading.{one_list, one_miss, never_both}
use Rattle.vt_type.specs.Constants.{core_constants}
use Rattle.vt_type.proofs.ConstantTable.{core_is_table}
use Rattle.vt_syntax.specs.declared.program.Program.{Program}
use Rattle.vt_syntax.specs.declared.core_program.CoreProgram.{CoreProgram}
use Rattle.vt_lex.specs.Spans.{word_at}
use Rattle.vt_syntax.specs.Spelling.{SpellsIn}
use Rattle.vt_parse.specs.declared.fault.ParseFault.{ParseFault}
use Rattle.vt_parse.specs.declared.fault.ParseFault.TheVariants as parse
use Rattle.vt_parse.specs.Answer.{IsParsed}
use Rattle.vt_parse.proofs.LawLemmas.{one_program, one_answer}
use Rattle.vt_scope.specs.declared.fault.ScopeFault.{ScopeFault}
use Rattle.vt_scope.specs.declared.fault.ScopeFault.TheVariants as scope
use Rattle.vt_scope.specs.Faults.{dims_of}
use Rattle.vt_scope.specs.Cores.{IsCoreProgram}
use Rattle.vt_scope.proofs.OneCore.{one_core}
use Rattle.vt_report.specs.declared.refusal.Refusal.{Refusal}
use Rattle.vt_report.specs.declared.refusal.Refusal.TheVariants.{TooLong, NotText, BadCharacter, OpenString, BigNumber, Unexpected, TooDeep, Unbound, TooManyDimensions, BadDecision, UnknownDimension, NotPlain, TooManyLeaves, TooBigPart, TooBigChange}
use Rattle.vt_file.specs.Files.{IsProgramOf, scope_fault, IsCoreOf}
use Rattle.vt_file.specs.Refusals.{IsTokenAt, IsNoProgram}

-- A file is read as one program, or refused for one reason, and never both.

-- ---- a text has one reading

one_characters : (text cs ds : List ℕ) → AreCharactersOf text cs → AreCharactersOf text ds → cs ≡ ds
one_characters text cs ds c d = encodes_same cs ds (c.encoded ∙ sym d.encoded)

one_place : (text : List ℕ) (at : ℕ) (one other : LineCol) → IsPlace text at one → IsPlace text at other → one ≡ other
one_place text at one other (cs, c, e) (ds, d, f) = e ∙ ap place_after (one_characters (take at text) cs ds c d) ∙ sym f

one_tokens : (text : List ℕ) (ts us : List Token) → AreTokensOf text ts → AreTokensOf text us → ts ≡ us
one_tokens text ts us (cs, c, l) (ds, d, m) = one_list 0 cs ts us l (subst (λ es. Lexes 0 es us) (one_characters text ds cs d c) m)

-- tokens and a first miss
never_lexed : (text cs : List ℕ) (ts : List Token) (fault : LexFault) → AreTokensOf text ts → AreCharactersOf text cs → Misses 0 cs fault → ⊥
never_lexed text cs ts fault (ds, d, l) c m = never_both 0 cs ts fault (subst (λ es. Lexes 0 es ts) (one_characters text ds cs d c) l) m

one_fault : (text cs ds : List ℕ) (f g : LexFault) → AreCharactersOf text cs → AreCharactersOf text ds → Misses 0 cs f → Misses 0 ds g → f ≡ g
one_fault text cs ds f g c d m n = one_miss 0 cs f g m (subst (λ es. Misses 0 es g) (one_characters text ds cs d c) n)

-- ---- tokens have one answer of the reader

one_reading : (text : List ℕ) (ts us : List Token) (r s : Result Program ParseFault) → AreTokensOf text ts → AreTokensOf text us
    → r ≢ Err parse.Memory → s ≢ Err parse.Memory → IsParsed text ts r → IsParsed text us s → r ≡ s
one_reading text ts us r s t u nr ns p q = one_answer text ts r s nr ns p (subst (λ vs. IsParsed text vs s) (one_tokens text us ts u t) q)

program_parsed : (bytes : List ℕ) (tokens : List Token) (program : Program) → IsProgramOf bytes tokens program → IsParsed bytes tokens (Ok program)
program_parsed bytes tokens program read = (read.depth, read.spelled, read.admitted)

-- an answer that is none
abbrev failed : ParseFault → Result Program ParseFault
failed fault = Err fault

unexpected_error : (k : ℕ) → failed (parse.Unexpected k) ≢ failed parse.Memory
unexpected_error k e = cc

deep_error : (k : ℕ) → failed (parse.TooDeep k) ≢ failed parse.Memory
deep_error k e = cc

program_no_error : (program : Program) → Ok program ≢ failed parse.Memory
program_no_error program e = cc

one_named : (text : List ℕ) (o : Option Token) (at by : LineCol) (s t : List ℕ) → IsTokenAt text o at s → IsTokenAt text o by t → (at ≡ by) × (s ≡ t)
one_named text (Some token) at by s t h k = (one_place text token.span.start at by h.0 k.0, h.1 ∙ sym k.1)
one_named text None at by s t h k = (one_place text (length text) at by h.0 k.0, h.1 ∙ sym k.1)

-- ---- a file is read as one program

pub program_once : (bytes : List ℕ) (ts us : List Token) (one other : Program) → IsProgramOf bytes ts one → IsProgramOf bytes us other → one ≡ other
program_once bytes ts us one other h k =
    let same = one_tokens bytes us ts k.tokens_are h.tokens_are in
    (one_program bytes ts one other h.depth k.depth h.spelled (subst (λ vs. SpellsIn bytes vs other k.depth) same k.spelled)).0

pub core_once : (bytes : List ℕ) (one other : Program) (c d : CoreProgram) → IsCoreOf bytes one c → IsCoreOf bytes other d → (one ≡ other) × (c ≡ d)
core_once bytes one other c d h k =
    let same = program_once bytes h.tokens k.tokens one other h.read k.read in
    let again = subst (λ p. IsCoreProgram core_constants (dims_of p) p d k.leaves) (sym same) k.core_is in
    (same, (one_core core_constants one c d h.leaves k.leaves core_is_table h.core_is again).0)

-- ---- how far a file is read

-- after how many of the steps a refusal comes
abbrev rank : Refusal → ℕ
rank TooLong = 0
rank (NotText at) = 1
rank (BadCharacter at) = 2
rank (OpenString at) = 2
rank (BigNumber at) = 2
rank (Unexpected at spelling) = 3
rank (TooDeep at) = 3
rank (Unbound at name) = 4
rank (TooManyDimensions at) = 4
rank other = 5

-- what holds of a file that comes through so many steps
abbrev Comes : List ℕ → ℕ → Type 0
Comes bytes zero = Unit {0}
Comes bytes (suc zero) = length bytes ≤ most_bytes
Comes bytes (suc (suc zero)) = (length bytes ≤ most_bytes) × (cs : List ℕ) × AreCharactersOf bytes cs
Comes bytes (suc (suc (suc zero))) = (length bytes ≤ most_bytes) × (tokens : List Token) × AreTokensOf bytes tokens
Comes bytes (suc (suc (suc (suc zero)))) = (tokens : List Token) × (program : Program) × IsProgramOf bytes tokens program
Comes bytes (suc (suc (suc (suc (suc zero))))) = (program : Program) × (core : CoreProgram) × IsCoreOf bytes program core
Comes bytes (suc (suc (suc (suc (suc (suc n)))))) = ⊥

down : (bytes : List ℕ) (k : ℕ) → Comes bytes (suc k) → Comes bytes k
down bytes zero h = tt
down bytes (suc zero) h = h.0
down bytes (suc (suc zero)) (within, tokens, (cs, c, l)) = (within, cs, c)
down bytes (suc (suc (suc zero))) (tokens, program, read) = (read.within, tokens, read.tokens_are)
down bytes (suc (suc (suc (suc zero)))) (program, core, resolved) = (resolved.tokens, program, resolved.read)
down bytes (suc (suc (suc (suc (suc n))))) h = absurd h

lower : (bytes : List ℕ) (d j k : ℕ) → k ≡ d + j → Comes bytes k → Comes bytes j
lower bytes zero j k e h = let same : k ≡ j = omega arith in subst (Comes bytes) same h
lower bytes (suc d) j k e h = let same : k ≡ suc (d + j) = omega arith in lower bytes d j (d + j) refl (down bytes (d + j) (subst (Comes bytes) same h))

-- a refusal comes after its steps, and the file does not come through one more
record IsStopped (bytes : List ℕ) (steps : ℕ) : Type 0 where
  pub through : Comes bytes steps
  pub no_more : Comes bytes (suc steps) → ⊥

not_below : (bytes : List ℕ) (j k : ℕ) → IsStopped bytes j → Comes bytes k → j < k → ⊥
not_below bytes j k stopped comes below = stopped.no_more (lower bytes (k - suc j) (suc j) k (omega arith) comes)

-- the reader's answers
no_program : (fault : ParseFault) (program : Program) → failed fault ≡ Ok program → ⊥
no_program fault program e = cc

not_memory : (fault : ParseFault) → fault ≢ parse.Memory → failed fault ≢ failed parse.Memory
not_memory fault other e = other (cc)

-- bytes that are no text
not_text : (bytes : List ℕ) (at : ℕ) (cs : List ℕ) → IsValidUpTo bytes at → AreCharactersOf bytes cs → ⊥
not_text bytes at cs valid c =
    valid.longest (length bytes) valid.short (subst IsUtf8 (sym (take-length bytes)) (cs, (c.scalars, c.encoded)))

one_front : (bytes : List ℕ) (m n : ℕ) → IsValidUpTo bytes m → IsValidUpTo bytes n → m ≡ n
one_front bytes m n h k =
    let less : m < n → ⊥ = λ below. h.longest n below k.front in
    let more : n < m → ⊥ = λ below. k.longest m below h.front in
    omega arith

missed : (bytes cs : List ℕ) (fault : LexFault) → length bytes ≤ most_bytes → AreCharactersOf bytes cs → Misses 0 cs fault → IsStopped bytes 2
missed bytes cs fault within c m = record { through = (within, cs, c); no_more = λ (_, ts, are). never_lexed bytes cs ts fault are c m }

unread : (bytes : List ℕ) (tokens : List Token) (fault : ParseFault) → length bytes ≤ most_bytes → AreTokensOf bytes tokens → fault ≢ parse.Memory → IsParsed bytes tokens (Err fault) → IsStopped bytes 3
unread bytes tokens fault within are other parsed = record {
  through = (within, tokens, are);
  no_more = λ (ts, program, read). no_program fault program (one_reading bytes tokens ts (Err fault) (Ok program) are read.tokens_are (not_memory fault other) (program_no_error program) parsed (program_parsed bytes ts program read));
}

out : (bytes : List ℕ) (tokens : List Token) (program : Program) (fault : ScopeFault) → IsProgramOf bytes tokens program → scope_fault program ≡ Some fault → IsStopped bytes 4
out bytes tokens program fault read e = record {
  through = (tokens, program, read);
  no_more = λ (other, core, resolved).
      let same = program_once bytes tokens resolved.tokens program other read resolved.read in
      none-some fault (sym resolved.in_scope ∙ ap scope_fault (sym same) ∙ e);
}

stops : (bytes : List ℕ) (r : Refusal) → IsNoProgram bytes r → IsStopped bytes (rank r)
stops bytes TooLong h = record { through = tt; no_more = λ within. absurd (omega arith) }
stops bytes (NotText at) h = record { through = h.0; no_more = λ (_, cs, c). not_text bytes at cs h.1 c }
stops bytes (BadCharacter at) (byte, within, (cs, c, m), place) = missed bytes cs (lex.BadCharacter byte) within c m
stops bytes (OpenString at) (byte, within, (cs, c, m), place) = missed bytes cs (lex.OpenString byte) within c m
stops bytes (BigNumber at) (span, within, (cs, c, m), place) = missed bytes cs (lex.BigNumber span) within c m
stops bytes (Unexpected at spelling) (tokens, k, within, are, is, named) = unread bytes tokens (parse.Unexpected k) within are (λ e. cc) is
stops bytes (TooDeep at) (tokens, k, t, within, are, is, e, place) = unread bytes tokens (parse.TooDeep k) within are (λ e. cc) is
stops bytes (Unbound at name) (tokens, program, span, read, e, place, named) = out bytes tokens program (scope.Unbound span) read e
stops bytes (TooManyDimensions at) (tokens, program, span, read, e, place) = out bytes tokens program (scope.TooManyDimensions span) read e
stops bytes BadDecision h = absurd h
stops bytes (UnknownDimension name) h = absurd h
stops bytes (NotPlain name) h = absurd h
stops bytes TooManyLeaves h = absurd h
stops bytes (TooBigPart name) h = absurd h
stops bytes (TooBigChange at) h = absurd h

rank_below : (bytes : List ℕ) (r : Refusal) → IsNoProgram bytes r → rank r < 5
rank_below bytes TooLong h = lit< tt
rank_below bytes (NotText at) h = lit< tt
rank_below bytes (BadCharacter at) h = lit< tt
rank_below bytes (OpenString at) h = lit< tt
rank_below bytes (BigNumber at) h = lit< tt
rank_below bytes (Unexpected at spelling) h = lit< tt
rank_below bytes (TooDeep at) h = lit< tt
rank_below bytes (Unbound at name) h = lit< tt
rank_below bytes (TooManyDimensions at) h = lit< tt
rank_below bytes BadDecision h = absurd h
rank_below bytes (UnknownDimension name) h = absurd h
rank_below bytes (NotPlain name) h = absurd h
rank_below bytes TooManyLeaves h = absurd h
rank_below bytes (TooBigPart name) h = absurd h
rank_below bytes (TooBigChange at) h = absurd h

-- A file that gives no program in scope has no core.
pub never_refused : (bytes : List ℕ) (r : Refusal) (program : Program) (core : CoreProgram) → IsNoProgram bytes r → IsCoreOf bytes program core → ⊥
never_refused bytes r program core h is = not_below bytes (rank r) 5 (stops bytes r h) (program, core, is) (rank_below bytes r h)

-- ---- one refusal

lexed_once : (bytes : List ℕ) (f g : LexFault) → (h : (cs : List ℕ) × AreCharactersOf bytes cs × Misses 0 cs f) → (k : (cs : List ℕ) × AreCharactersOf bytes cs × Misses 0 cs g) → f ≡ g
lexed_once bytes f g (cs, c, m) (ds, d, n) = one_fault bytes cs ds f g c d m n

same_refusal : (bytes : List ℕ) (r s : Refusal) → rank r ≡ rank s → IsNoProgram bytes r → IsNoProgram bytes s → r ≡ s
same_refusal bytes TooLong TooLong e h k = refl
same_refusal bytes (NotText at) (NotText by) e h k = ap NotText (one_front bytes at by h.1 k.1)
same_refusal bytes (BadCharacter at) (BadCharacter by) e (b, w, m, p) (c, v, n, q) =
    let same : b ≡ c = cc (lexed_once bytes (lex.BadCharacter b) (lex.BadCharacter c) m n) in
    ap BadCharacter (one_place bytes c at by (subst (λ x. IsPlace bytes x at) same p) q)
same_refusal bytes (BadCharacter at) (OpenString by) e (b, w, m, p) (c, v, n, q) = cc (lexed_once bytes (lex.BadCharacter b) (lex.OpenString c) m n)
same_refusal bytes (BadCharacter at) (BigNumber by) e (b, w, m, p) (c, v, n, q) = cc (lexed_once bytes (lex.BadCharacter b) (lex.BigNumber c) m n)
same_refusal bytes (OpenString at) (BadCharacter by) e (b, w, m, p) (c, v, n, q) = cc (lexed_once bytes (lex.OpenString b) (lex.BadCharacter c) m n)
same_refusal bytes (OpenString at) (OpenString by) e (b, w, m, p) (c, v, n, q) =
    let same : b ≡ c = cc (lexed_once bytes (lex.OpenString b) (lex.OpenString c) m n) in
    ap OpenString (one_place bytes c at by (subst (λ x. IsPlace bytes x at) same p) q)
same_refusal bytes (OpenString at) (BigNumber by) e (b, w, m, p) (c, v, n, q) = cc (lexed_once bytes (lex.OpenString b) (lex.BigNumber c) m n)
same_refusal bytes (BigNumber at) (BadCharacter by) e (b, w, m, p) (c, v, n, q) = cc (lexed_once bytes (lex.BigNumber b) (lex.BadCharacter c) m n)
same_refusal bytes (BigNumber at) (OpenString by) e (b, w, m, p) (c, v, n, q) = cc (lexed_once bytes (lex.BigNumber b) (lex.OpenString c) m n)
same_refusal bytes (BigNumber at) (BigNumber by) e (b, w, m, p) (c, v, n, q) =
    let same : b ≡ c = cc (lexed_once bytes (lex.BigNumber b) (lex.BigNumber c) m n) in
    ap BigNumber (one_place bytes c.start at by (subst (λ x. IsPlace bytes x.start at) same p) q)
same_refusal bytes (Unexpected at one) (Unexpected by other) e (ts, k, w, are, is, named) (us, j, v, also, was, known) =
    let same : k ≡ j = cc (one_reading bytes ts us (Err (parse.Unexpected k)) (Err (parse.Unexpected j)) are also (unexpected_error k) (unexpected_error j) is was) in
    let tokens = one_tokens bytes ts us are also in
    let both = one_named bytes (slice_get us j) at by one other (subst (λ i. IsTokenAt bytes (slice_get us i) at one) same (subst (λ vs. IsTokenAt bytes (slice_get vs k) at one) tokens named)) known in
    (λ i. Unexpected (both.0 i) (both.1 i))
same_refusal bytes (Unexpected at one) (TooDeep by) e (ts, k, w, are, is, named) (us, j, t, v, also, was, there, known) =
    cc (one_reading bytes ts us (Err (parse.Unexpected k)) (Err (parse.TooDeep j)) are also (unexpected_error k) (deep_error j) is was)
same_refusal bytes (TooDeep at) (Unexpected by other) e (ts, k, t, w, are, is, there, place) (us, j, v, also, was, known) =
    cc (one_reading bytes ts us (Err (parse.TooDeep k)) (Err (parse.Unexpected j)) are also (deep_error k) (unexpected_error j) is was)
same_refusal bytes (TooDeep at) (TooDeep by) e (ts, k, t, w, are, is, there, place) (us, j, u, v, also, was, here, known) =
    let same : k ≡ j = cc (one_reading bytes ts us (Err (parse.TooDeep k)) (Err (parse.TooDeep j)) are also (deep_error k) (deep_error j) is was) in
    let tokens = one_tokens bytes ts us are also in
    let token : t ≡ u = same_Some t u (sym there ∙ (λ i. slice_get (tokens i) (same i)) ∙ here) in
    ap TooDeep (one_place bytes u.span.start at by (subst (λ x. IsPlace bytes x.span.start at) token place) known)
same_refusal bytes (Unbound at one) (Unbound by other) e (ts, p, x, read, f, place, named) (us, q, y, also, g, there, known) =
    let same = program_once bytes ts us p q read also in
    let span : x ≡ y = cc (same_Some (scope.Unbound x) (scope.Unbound y) (sym f ∙ ap scope_fault same ∙ g)) in
    let spot = one_place bytes y.start at by (subst (λ z. IsPlace bytes z.start at) span place) there in
    let word : one ≡ other = named ∙ ap (word_at bytes) span ∙ sym known in
    (λ i. Unbound (spot i) (word i))
same_refusal bytes (Unbound at one) (TooManyDimensions by) e (ts, p, x, read, f, place, named) (us, q, y, also, g, there) =
    let same = program_once bytes ts us p q read also in
    cc (same_Some (scope.Unbound x) (scope.TooManyDimensions y) (sym f ∙ ap scope_fault same ∙ g))
same_refusal bytes (TooManyDimensions at) (Unbound by other) e (ts, p, x, read, f, place) (us, q, y, also, g, there, known) =
    let same = program_once bytes ts us p q read also in
    cc (same_Some (scope.TooManyDimensions x) (scope.Unbound y) (sym f ∙ ap scope_fault same ∙ g))
same_refusal bytes (TooManyDimensions at) (TooManyDimensions by) e (ts, p, x, read, f, place) (us, q, y, also, g, there) =
    let same = program_once bytes ts us p q read also in
    let span : x ≡ y = cc (same_Some (scope.TooManyDimensions x) (scope.TooManyDimensions y) (sym f ∙ ap scope_fault same ∙ g)) in
    ap TooManyDimensions (one_place bytes y.start at by (subst (λ z. IsPlace bytes z.start at) span place) there)
same_refusal bytes BadDecision s e h k = absurd h
same_refusal bytes (UnknownDimension name) s e h k = absurd h
same_refusal bytes (NotPlain name) s e h k = absurd h
same_refusal bytes TooManyLeaves s e h k = absurd h
same_refusal bytes (TooBigPart name) s e h k = absurd h
same_refusal bytes (TooBigChange at) s e h k = absurd h
same_refusal bytes r BadDecision e h k = absurd k
same_refusal bytes r (UnknownDimension name) e h k = absurd k
same_refusal bytes r (NotPlain name) e h k = absurd k
same_refusal bytes r TooManyLeaves e h k = absurd k
same_refusal bytes r (TooBigPart name) e h k = absurd k
same_refusal bytes r (TooBigChange at) e h k = absurd k
same_refusal bytes r s e h k = absurd (omega arith)

pub one_refusal : (bytes : List ℕ) (r s : Refusal) → IsNoProgram bytes r → IsNoProgram bytes s → r ≡ s
one_refusal bytes r s h k =
    let first = stops bytes r h in
    let second = stops bytes s k in
    let less : rank r < rank s → ⊥ = λ below. not_below bytes (rank r) (rank s) first second.through below in
    let more : rank s < rank r → ⊥ = λ below. not_below bytes (rank s) (rank r) second first.through below in
    same_refusal bytes r s (omega arith) h k
