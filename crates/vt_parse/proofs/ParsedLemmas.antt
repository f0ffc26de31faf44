use Rattle.std.proofs.Common.{◌≡◌, ℕ, ◌+◌, ◌<◌, ◌≤◌, inl, inr, List, [], ◌∷◌, ◌++◌, length, take, get_or, refl, sym, ap, ◌∙◌, arith}
use Rattle.std.specs.Prelude.{Some, None}
use Rattle.std.proofs.lemmas.List.{take_more, take_all}
use Rattle.vt_lex.specs.declared.token.Token.{Token}
use Rattle.vt_syntax.specs.declared.program.Program.{Program}
use Rattle.vt_syntax.specs.Spelling.{SpellsIn, Begins, BeginsAny, most_depth}
use Rattle.vt_grammar.specs.Machine.{State, initial, step, run, need, finish}
use Rattle.vt_parse.specs.Answer.{BeginsNone, SpellsNone, IsUnexpected, IsTooDeep}
use Rattle.vt_grammar.specs.States.{IsAfter}
use Rattle.vt_grammar.proofs.Backbone.{read_is_spelled, has_completion, spelled_is_read}
use Rattle.vt_grammar.proofs.ReduceLemmas.{finish-depth}
use Rattle.vt_grammar.proofs.ReadOn.{run-split, run-one, run-onto, reached-begins, read-on, needed}

-- What the reader knows of the tokens when it stops.

-- no step at a token: no program has it there
pub no-step : (text : List ℕ) (ts : List Token) (t : Token) (s : State)
    → run text initial ts ≡ Some s → step text s t ≡ None → BeginsNone text (ts ++ t ∷ [])
no-step text ts t s r e (most, (more, program, depth, p, h)) =
    let on = read-on text (ts ++ t ∷ []) more program depth p in
    let two = run-split text ts (t ∷ []) initial on.middle on.first in
    let one = run-one text t two.middle on.middle two.second in
    let same : Some s ≡ Some two.middle = sym r ∙ two.first in
    let equal : s ≡ two.middle = cc in
    let none = rw equal at e in
    cc

-- too deep after a token: so are all programs that have it there
pub too-deep : (text : List ℕ) (ts : List Token) (s : State)
    → run text initial ts ≡ Some s → most_depth < need s
    → (Begins text most_depth ts → ⊥) × BeginsAny text ts
too-deep text ts s r over = (
  λ b. let k = needed text ts s most_depth r b in absurd (omega arith),
  let c = has_completion text ts s r in (need s, (c.0, c.1, need s, c.2, omega arith)),
)

-- no program at the end
pub no-end : (text : List ℕ) (ts : List Token) (s : State)
    → run text initial ts ≡ Some s → finish s ≡ None → SpellsNone text ts
no-end text ts s r e program depth p =
    let on = spelled_is_read text ts program.defs program.main depth p in
    let same : Some s ≡ Some on.0 = sym r ∙ on.1 in
    let equal : s ≡ on.0 = cc in
    let none = rw equal at e in
    cc

-- a program at the end
pub an-end : (text : List ℕ) (ts : List Token) (s : State) (program : Program) (depth : ℕ)
    → IsAfter text ts s → finish s ≡ Some (record { defs = program.defs; main = program.main; depth = depth })
    → (n : ℕ) × SpellsIn text ts program n × (n ≤ most_depth)
an-end text ts s program depth r e =
    let d = finish-depth s (record { defs = program.defs; main = program.main; depth = depth }) e in
    let k = r.admitted in
    (depth, read_is_spelled text ts s (record { defs = program.defs; main = program.main; depth = depth }) r.runs e, omega arith)

pub reached-first : (text : List ℕ) → IsAfter text [] initial
reached-first text = record { runs = refl; admitted = omega arith }

-- one token more
module _ (text : List ℕ) (ts : List Token) (i : ℕ) (d : Token) (s : State)
    (reached : IsAfter text (take i ts) s) (within : i < length ts) where
  longer : take (i + 1) ts ≡ take i ts ++ get_or ts i d ∷ []
  longer = take_more ts i d within

  pub reached-next : (u : State) → step text s (get_or ts i d) ≡ Some u → need u ≤ most_depth → IsAfter text (take (i + 1) ts) u
  reached-next u e h = record { runs = ap (run text initial) longer ∙ (run-onto text (take i ts) (get_or ts i d) initial s (Some u) reached.runs e); admitted = h }

  pub stop-unexpected : step text s (get_or ts i d) ≡ None → IsUnexpected text ts i
  stop-unexpected e = (reached-begins text (take i ts) s reached, inl (within, rw longer (no-step text (take i ts) (get_or ts i d) s reached.runs e)))

  pub stop-deep : (u : State) → step text s (get_or ts i d) ≡ Some u → most_depth < need u → IsTooDeep text ts i
  stop-deep u e over =
      let runs = ap (run text initial) longer ∙ run-onto text (take i ts) (get_or ts i d) initial s (Some u) reached.runs e in
      let d = too-deep text (take (i + 1) ts) u runs over in
      (within, reached-begins text (take i ts) s reached, d.0, d.1)

-- all tokens
pub reached-all : (text : List ℕ) (ts : List Token) (i : ℕ) (s : State) → length ts ≤ i → IsAfter text (take i ts) s → IsAfter text ts s
reached-all text ts i s h r = rw (take_all i ts h) at r

-- no program at the end of all tokens
pub end-unexpected : (text : List ℕ) (ts : List Token) (s : State) → IsAfter text ts s → finish s ≡ None → IsUnexpected text ts (length ts)
end-unexpected text ts s r e = (rw (take_all (length ts) ts (omega arith)) (reached-begins text ts s r), inr (refl, no-end text ts s r.runs e))
