use Rattle.std.proofs.Common.{◌≡◌, ℕ, ◌+◌, ◌<◌, ◌≤◌, inl, inr, List, ◌++◌, length, take, drop, refl, sym, ap, ◌∙◌, arith, append_assoc}
use Rattle.std.specs.Prelude.{Some, Ok, Err}
use Rattle.std.proofs.lemmas.List.{take-append-drop, take-take}
use Rattle.std.proofs.lemmas.Option.{same_Some}
use Rattle.vt_lex.specs.declared.token.Token.{Token}
use Rattle.vt_syntax.specs.declared.program.Program.{Program}
use Rattle.vt_syntax.specs.Spelling.{SpellsIn, Begins, most_depth}
use Rattle.vt_parse.specs.declared.fault.ParseFault.TheVariants.{Unexpected, TooDeep, Memory}
use Rattle.vt_grammar.specs.Machine.{need, Finished, finish}
use Rattle.vt_parse.specs.Answer.{IsUnexpected, IsTooDeep}
use Rattle.vt_parse.specs.Laws.{HasOneProgram, IsAdmittedIfBegun, HasLeastDepth, HasOneAnswer}
use Rattle.vt_grammar.proofs.Backbone.{has_completion, spelled_is_read}
use Rattle.vt_grammar.proofs.ReduceLemmas.{finish-depth}
use Rattle.vt_grammar.proofs.ReadOn.{read-on, needed}

-- The laws of what tokens spell.

-- the program of what is finished, and what is finished of a program
abbrev program_of : Finished → Program
program_of f = record { defs = f.defs; main = f.main }

abbrev finished : Program → ℕ → Finished
finished program depth = record { defs = program.defs; main = program.main; depth = depth }

finished-same : (one other : Program) (m n : ℕ) → Some (finished one m) ≡ Some (finished other n) → (one ≡ other) × (m ≡ n)
finished-same one other m n e =
    let same = same_Some (finished one m) (finished other n) e in
    (ap program_of same, ap (λ (f : Finished). f.depth) same)

pub one_program : HasOneProgram
one_program text tokens one other m n p q =
    let r = spelled_is_read text tokens one.defs one.main m p in
    let s = spelled_is_read text tokens other.defs other.main n q in
    finished-same one other m n (sym r.2 ∙ ap finish (same_Some r.0 s.0 (sym r.1 ∙ s.1)) ∙ s.2)

pub admitted_if_begun : IsAdmittedIfBegun
admitted_if_begun text tokens program depth p b =
    let r = spelled_is_read text tokens program.defs program.main depth p in
    let d = finish-depth r.0 (finished program depth) r.2 in
    let k = needed text tokens r.0 most_depth r.1 b in
    omega (arith, d, k)

pub least_depth : HasLeastDepth
least_depth text tokens (most, (more, program, depth, p, h)) =
    let on = read-on text tokens more program depth p in
    let c = has_completion text tokens on.middle on.first in
    (need on.middle, (c.0, c.1, need on.middle, c.2, omega arith), λ n b. needed text tokens on.middle n on.first b)

-- what begins with more tokens begins with fewer
begins-fewer : (text : List ℕ) (n : ℕ) (ts us : List Token) → Begins text n (ts ++ us) → Begins text n ts
begins-fewer text n ts us (more, program, depth, p, h) = (us ++ more, program, depth, rw append_assoc at p, h)

take-fewer : (ts : List Token) (j k : ℕ) → j ≤ k → take k ts ≡ take j ts ++ drop j (take k ts)
take-fewer ts j k h = let e = take-append-drop j (take k ts) in sym e ∙ ap (λ l. l ++ drop j (take k ts)) (take-take j k ts h)

begins-take : (text : List ℕ) (n : ℕ) (ts : List Token) (j k : ℕ) → j ≤ k → Begins text n (take k ts) → Begins text n (take j ts)
begins-take text n ts j k h b = let c = rw (take-fewer ts j k h) at b in begins-fewer text n (take j ts) (drop j (take k ts)) c

-- an admitted program begins with so many tokens, and none with more
record StopsAt (text : List ℕ) (ts : List Token) (k : ℕ) : Type 0 where
  within : k ≤ length ts
  begins : Begins text most_depth (take k ts)
  stops : k < length ts → Begins text most_depth (take (k + 1) ts) → ⊥

one-stop : (text : List ℕ) (ts : List Token) (j k : ℕ) → StopsAt text ts j → StopsAt text ts k → j < k → ⊥
one-stop text ts j k s r h = s.stops (omega (arith, r.within)) (begins-take text most_depth ts (j + 1) k (omega arith) r.begins)

unexpected-stops : (text : List ℕ) (ts : List Token) (k : ℕ) → IsUnexpected text ts k → StopsAt text ts k
unexpected-stops text ts k (b, inl (l, n)) = record { within = omega arith; begins = b; stops = λ _ c. n (most_depth, c) }
unexpected-stops text ts k (b, inr (l, n)) = record { within = omega arith; begins = b; stops = λ m _. absurd (omega arith) }

deep-stops : (text : List ℕ) (ts : List Token) (k : ℕ) → IsTooDeep text ts k → StopsAt text ts k
deep-stops text ts k d = record { within = omega (arith, d.0); begins = d.1; stops = λ _. d.2 }

-- an admitted program begins with each first part of the tokens that spell it
spelled-begins : (text : List ℕ) (ts : List Token) (k : ℕ) (program : Program) (depth : ℕ)
    → SpellsIn text ts program depth → depth ≤ most_depth → Begins text most_depth (take k ts)
spelled-begins text ts k program depth p h = (drop k ts, program, depth, rw take-append-drop p, h)

-- so such tokens stop nowhere
spelled-stops : (text : List ℕ) (ts : List Token) (k : ℕ) (program : Program) (depth : ℕ)
    → SpellsIn text ts program depth → depth ≤ most_depth → StopsAt text ts k → k < length ts → ⊥
spelled-stops text ts k program depth p h s l = s.stops l (spelled-begins text ts (k + 1) program depth p h)

not-unexpected : (text : List ℕ) (ts : List Token) (k : ℕ) (program : Program) (depth : ℕ)
    → SpellsIn text ts program depth → depth ≤ most_depth → IsUnexpected text ts k → ⊥
not-unexpected text ts k program depth p h (b, inl (l, n)) = spelled-stops text ts k program depth p h (unexpected-stops text ts k (b, inl (l, n))) l
not-unexpected text ts k program depth p h (b, inr (l, n)) = n program depth p

not-deep : (text : List ℕ) (ts : List Token) (k : ℕ) (program : Program) (depth : ℕ)
    → SpellsIn text ts program depth → depth ≤ most_depth → IsTooDeep text ts k → ⊥
not-deep text ts k program depth p h d = spelled-stops text ts k program depth p h (deep-stops text ts k d) d.0

stop-same : (text : List ℕ) (ts : List Token) (j k : ℕ) → StopsAt text ts j → StopsAt text ts k → j ≡ k
stop-same text ts j k s r =
    let below : j < k → ⊥ = one-stop text ts j k s r in
    let above : k < j → ⊥ = one-stop text ts k j r s in
    omega arith

-- what is unexpected is not too deep
not-both : (text : List ℕ) (ts : List Token) (j k : ℕ) → IsUnexpected text ts j → IsTooDeep text ts k → ⊥
not-both text ts j k (b, inl (l, n)) d =
    let e = stop-same text ts j k (unexpected-stops text ts j (b, inl (l, n))) (deep-stops text ts k d) in
    let any = rw (← e) at d.3 in
    n any
not-both text ts j k (b, inr (l, n)) d =
    let e = stop-same text ts j k (unexpected-stops text ts j (b, inr (l, n))) (deep-stops text ts k d) in
    absurd (omega (arith, d.0))

pub one_answer : HasOneAnswer
one_answer text ts (Ok p) (Ok q) a b (m, x, h) (n, y, k) = ap Ok (one_program text ts p q m n x y).0
one_answer text ts (Ok p) (Err (Unexpected k)) a b (m, x, h) y = absurd (not-unexpected text ts k p m x h y)
one_answer text ts (Ok p) (Err (TooDeep k)) a b (m, x, h) y = absurd (not-deep text ts k p m x h y)
one_answer text ts (Ok p) (Err Memory) a b x y = absurd (b refl)
one_answer text ts (Err (Unexpected j)) (Ok q) a b x (n, y, k) = absurd (not-unexpected text ts j q n y k x)
one_answer text ts (Err (Unexpected j)) (Err (Unexpected k)) a b x y =
    ap (λ i. Err (Unexpected i)) (stop-same text ts j k (unexpected-stops text ts j x) (unexpected-stops text ts k y))
one_answer text ts (Err (Unexpected j)) (Err (TooDeep k)) a b x y = absurd (not-both text ts j k x y)
one_answer text ts (Err (Unexpected j)) (Err Memory) a b x y = absurd (b refl)
one_answer text ts (Err (TooDeep j)) (Ok q) a b x (n, y, k) = absurd (not-deep text ts j q n y k x)
one_answer text ts (Err (TooDeep j)) (Err (Unexpected k)) a b x y = absurd (not-both text ts k j y x)
one_answer text ts (Err (TooDeep j)) (Err (TooDeep k)) a b x y =
    ap (λ i. Err (TooDeep i)) (stop-same text ts j k (deep-stops text ts j x) (deep-stops text ts k y))
one_answer text ts (Err (TooDeep j)) (Err Memory) a b x y = absurd (b refl)
one_answer text ts (Err Memory) other a b x y = absurd (a refl)
