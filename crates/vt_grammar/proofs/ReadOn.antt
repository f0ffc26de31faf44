use Rattle.std.proofs.Common.{◌≡◌, ℕ, ◌≤◌, List, [], ◌∷◌, ◌++◌, refl, sym, ap, subst, ◌∙◌, arith}
use Rattle.std.specs.Prelude.{Option, Some, None}
use Rattle.std.proofs.lemmas.Option.{same_Some}
use Rattle.vt_lex.specs.declared.token.Token.{Token}
use Rattle.vt_syntax.specs.declared.program.Program.{Program}
use Rattle.vt_syntax.specs.Spelling.{SpellsIn, Begins, most_depth}
use Rattle.vt_grammar.specs.Machine.{State, initial, step, run, need, finish}
use Rattle.vt_grammar.specs.States.{IsAfter}
use Rattle.vt_grammar.proofs.Running.{onward, run-append}
use Rattle.vt_grammar.proofs.Backbone.{has_completion, spelled_is_read, need_rises}
use Rattle.vt_grammar.proofs.ReduceLemmas.{finish-depth}

-- What the state after some tokens says of the programs that begin with them.

-- The machine runs over a list by its first tokens and then the others.
pub record Split (text : List ℕ) (ts us : List Token) (s u : State) : Type 0 where
  pub middle : State
  pub first : run text s ts ≡ Some middle
  pub second : run text middle us ≡ Some u

pub run-split : (text : List ℕ) (ts us : List Token) (s u : State) → run text s (ts ++ us) ≡ Some u → Split text ts us s u
run-split text ts us s u e = go (run text s ts) refl (sym (run-append text s ts us) ∙ e)
  where
    go : (o : Option State) → run text s ts ≡ o → onward text o us ≡ Some u → Split text ts us s u
    go None h e = cc
    go (Some middle) h e = record { middle = middle; first = h; second = e }

one-more : (text : List ℕ) (t : Token) (s : State) → run text s (t ∷ []) ≡ step text s t
one-more text t s = go (step text s t)
  where
    go : (o : Option State) → onward text o [] ≡ o
    go None = refl
    go (Some next) = refl

pub run-one : (text : List ℕ) (t : Token) (s u : State) → run text s (t ∷ []) ≡ Some u → step text s t ≡ Some u
run-one text t s u e = sym (one-more text t s) ∙ e

pub run-onto : (text : List ℕ) (ts : List Token) (t : Token) (s m : State) (o : Option State)
    → run text s ts ≡ Some m → step text m t ≡ o → run text s (ts ++ t ∷ []) ≡ o
run-onto text ts t s m o e h = run-append text s ts (t ∷ []) ∙ ap (λ r. onward text r (t ∷ [])) e ∙ one-more text t m ∙ h

pub reached-begins : (text : List ℕ) (ts : List Token) (s : State) → IsAfter text ts s → Begins text most_depth ts
reached-begins text ts s r = let c = has_completion text ts s r.runs in (c.0, c.1, need s, c.2, r.admitted)

-- each program that begins with tokens is read on from the state after them
pub record ReadOn (text : List ℕ) (ts more : List Token) (program : Program) (depth : ℕ) : Type 0 where
  pub middle : State
  pub last : State
  pub first : run text initial ts ≡ Some middle
  pub second : run text middle more ≡ Some last
  pub finished : finish last ≡ Some (record { defs = program.defs; main = program.main; depth = depth })
  pub deep : need middle ≤ depth

pub read-on : (text : List ℕ) (ts more : List Token) (program : Program) (depth : ℕ)
    → SpellsIn text (ts ++ more) program depth → ReadOn text ts more program depth
read-on text ts more program depth p =
    let r = spelled_is_read text (ts ++ more) program.defs program.main depth p in
    let s = run-split text ts more initial r.0 r.1 in
    let d = finish-depth r.0 (record { defs = program.defs; main = program.main; depth = depth }) r.2 in
    let n = need_rises text ts more s.middle r.0 s.first s.second in
    record { middle = s.middle; last = r.0; first = s.first; second = s.second; finished = r.2; deep = omega arith }

-- a program that begins with tokens is as deep as is needed after them
pub needed : (text : List ℕ) (ts : List Token) (s : State) (depth : ℕ)
    → run text initial ts ≡ Some s → Begins text depth ts → need s ≤ depth
needed text ts s depth r b =
    let on = read-on text ts b.0 b.1 b.2 b.3 in
    let deep : need s ≤ b.2 = subst (λ (u : State). need u ≤ b.2) (sym (same_Some s on.middle (sym r ∙ on.first))) on.deep in
    omega (arith, deep, b.4)
