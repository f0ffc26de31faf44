use Rattle.std.proofs.Common.{◌≡◌, ℕ, ◌<◌, ◌≤◌, ◌⊎◌, true, List, [], ◌∷◌, ◌++◌, Option, Some, None, refl, sym, ap, ◌∙◌, arith}
use Rattle.std.specs.Prelude.{if◌then◌else◌}
use Rattle.std.proofs.lemmas.Bool.Decides.{leb_tells}
use Rattle.std.proofs.lemmas.Bool.{le-leb}
use Rattle.vt_lex.specs.declared.span.Span.{Span}
use Rattle.vt_lex.specs.declared.token.Token.{Token}
use Rattle.vt_syntax.specs.declared.expr.Op.{Op}
use Rattle.vt_syntax.specs.Infixes.{Infix, level, left_level, right_level, infix_of}
use Rattle.vt_syntax.specs.Spelling.{Part}
use Rattle.vt_grammar.specs.declared.operand.Operand.{Operand}
use Rattle.vt_grammar.specs.declared.mark.Mark.{Mark}
use Rattle.vt_grammar.specs.declared.frame.Frame.{Frame}
use Rattle.vt_grammar.specs.declared.frame.Frame.TheVariants as frame
use Rattle.vt_grammar.specs.declared.frame.Next.TheVariants as ahead
use Rattle.vt_grammar.specs.Words.{start_of, operator_of}
use Rattle.vt_grammar.specs.Frames.{operand_of, both}
use Rattle.vt_grammar.specs.Machine.{State, moved, Reduced, shut, reduce, may_join, may_state, pending, join, begin, want, continue, end_at, end_part, step, run}

-- How the machine runs over one list and then another, and how operands close what is open.

-- the machine takes the token, and is in this state then
pub record Takes (text : List ℕ) (s : State) (t : Token) (u : State) : Type 0 where
  pub steps : step text s t ≡ Some u

-- it takes all the tokens
pub record Runs (text : List ℕ) (s : State) (ts : List Token) (u : State) : Type 0 where
  pub runs : run text s ts ≡ Some u

pub takes_first : {text : List ℕ} {s u v : State} {t : Token} {ts : List Token} → Takes text s t u → Runs text u ts v → Runs text s (t ∷ ts) v
takes_first {text} {ts = ts} e r = record { runs = ap (λ o. elim o [ Some next ↦ run text next ts | None ↦ None ]) e.steps ∙ r.runs }

pub takes_last : {text : List ℕ} {s u : State} {t : Token} → Takes text s t u → Runs text s (t ∷ []) u
takes_last e = takes_first e (record { runs = refl })

-- the machine goes on from where it has come to, if it has
abbrev pub onward : List ℕ → Option State → List Token → Option State
onward text o ts = elim o [ Some next ↦ run text next ts | None ↦ None ]

pub run-append : (text : List ℕ) (s : State) (ts us : List Token) → run text s (ts ++ us) ≡ onward text (run text s ts) us
run-append text s [] us = refl
run-append text s (t ∷ ts) us = go (λ next. run-append text next ts us) (step text s t)
  where
    go : ((next : State) → run text next (ts ++ us) ≡ onward text (run text next ts) us) → (o : Option State)
        → onward text o (ts ++ us) ≡ onward text (onward text o ts) us
    go same None = refl
    go same (Some next) = same next

pub runs_both : {text : List ℕ} {s u v : State} {ts us : List Token} → Runs text s ts u → Runs text u us v → Runs text s (ts ++ us) v
runs_both {text} {s} {ts = ts} {us = us} e r = record { runs = run-append text s ts us ∙ ap (λ o. onward text o us) e.runs ∙ r.runs }

-- what closes at a level closes at a lower one
shut-lower : (w v : ℕ) (top : Frame) (p q : Operand) → w ≤ v → shut v top p ≡ Some q → shut w top p ≡ Some q
shut-lower = grind (arith, leb_tells)

-- reducing further reduces all the way
abbrev again : ℕ → Reduced → Reduced
again w r = reduce w r.stack r.operand

-- what is reduced, after the outcome at the innermost construct
abbrev pub after : ℕ → Frame → List Frame → Operand → Option Operand → Reduced
after w top stack p None = record { stack = top ∷ stack; operand = p }
after w top stack p (Some q) = reduce w stack q

reduce-reduce : (w v : ℕ) (stack : List Frame) (p : Operand) → w ≤ v → again w (reduce v stack p) ≡ reduce w stack p
reduce-reduce w v [] p below = refl
reduce-reduce w v (top ∷ stack) p below = go (λ q. reduce-reduce w v stack q below) (shut v top p) refl
  where
    go : ((q : Operand) → again w (reduce v stack q) ≡ reduce w stack q) → (o : Option Operand) → shut v top p ≡ o → again w (after v top stack p o) ≡ reduce w (top ∷ stack) p
    go same None e = refl
    go same (Some q) e = same q ∙ sym (ap (after w top stack p) (shut-lower w v top p q below e))

pub reduce-lower : (w v : ℕ) (one other : List Frame) (p q : Operand) → w ≤ v → reduce v one p ≡ reduce v other q → reduce w one p ≡ reduce w other q
reduce-lower w v one other p q below e =
    sym (reduce-reduce w v one p below) ∙ ap (again w) e ∙ reduce-reduce w v other q below

-- what a left side and a right side want, against the level of the joint: one more, or the same among
-- those that group to that side
pub left-levels : (i : Infix) → (level i < left_level i) ⊎ ((level i ≤ left_level i) × (6 ≤ level i))
left-levels = grind arith

pub right-levels : (i : Infix) → (level i < right_level i) ⊎ ((level i ≤ right_level i) × (level i ≤ 5) × (1 ≤ level i))
right-levels = grind arith

-- an expression of this level may begin on top of these constructs
abbrev pub Fits : ℕ → List Frame → Type 0
Fits w [] = Unit {0}
Fits w (frame.Joint op at left ∷ stack) = right_level (infix_of op) ≤ w
Fits w (frame.Naming n ∷ stack) = ⊥
Fits w (top ∷ stack) = Unit {0}

pub Fits-higher : (w v : ℕ) (stack : List Frame) → w ≤ v → Fits w stack → Fits v stack
Fits-higher = grind arith

pub want-begins : (text : List ℕ) (w : ℕ) (stack : List Frame) (t : Token) (s : State) → Fits w stack → want text t s stack ≡ begin text (start_of t.kind) t.span s
want-begins = grind arith

pub may_state-fits : (stack : List Frame) → Fits 0 stack → may_state stack ≡ true
may_state-fits = grind (arith, right-levels)

may_join-fits : (w : ℕ) (op : Option Op) (stack : List Frame) → w ≤ level (infix_of op) → Fits w stack → may_join op stack ≡ true
may_join-fits = grind (arith, leb_tells)

-- an operand closes nothing before a joint that may stand there
stays : (w : ℕ) (i : Infix) (stack : List Frame) (p : Operand) → w ≤ level i → Fits w stack → reduce (left_level i) stack p ≡ record { stack = stack; operand = p }
stays = grind (arith, leb_tells, left-levels, right-levels)

pub join-fits : (op : Option Op) (at : Span) (w : ℕ) (s : State) (stack : List Frame) (q p : Operand)
    → w ≤ level (infix_of op) → Fits w stack → reduce (left_level (infix_of op)) s.stack q ≡ reduce (left_level (infix_of op)) stack p
    → join op at s q ≡ Some (moved s (frame.Joint op at p ∷ stack) ahead.Wanted)
join-fits op at w s stack q p below fits e =
    ap (pending op at s) (e ∙ stays w (infix_of op) stack p below fits)
    ∙ ap (λ b. if b then Some (moved s (frame.Joint op at p ∷ stack) ahead.Wanted) else None) (may_join-fits w op stack below fits)

-- a joint closes where its level is at least this one
pub closes-joint : (op : Option Op) (at : Span) (w : ℕ) (stack : List Frame) (p q : Operand) → w ≤ level (infix_of op)
    → reduce w (frame.Joint op at p ∷ stack) q ≡ reduce w stack (both op at p q)
closes-joint op at w stack p q below =
    ap (after w (frame.Joint op at p) stack q) (ap (λ b. if b then Some (both op at p q) else None) (le-leb w _ below))

-- The tokens lead from an expression that is wanted to an operand that has been read, which closes at this
-- level to exactly this part.
pub record Reads (text : List ℕ) (w : ℕ) (s : State) (stack : List Frame) (ts : List Token) (p : Part) : Type 0 where
  pub open_stack : List Frame
  pub operand : Operand
  pub runs : Runs text (moved s stack ahead.Wanted) ts (moved s open_stack (ahead.Read operand))
  pub closes : reduce w open_stack operand ≡ reduce w stack (operand_of p)

-- a token with which an expression begins
pub enters : {text : List ℕ} {stack : List Frame} {t : Token} (w : ℕ) (s u : State)
    → Fits w stack → begin text (start_of t.kind) t.span (moved s stack ahead.Wanted) ≡ Some u → Takes text (moved s stack ahead.Wanted) t u
enters {text} {stack} {t} w s u fits e = record { steps = want-begins text w stack t (moved s stack ahead.Wanted) fits ∙ e }

-- a token that is a sign or word after an operand, and nothing else there
abbrev pub Ends : List ℕ → Token → Mark → Type 0
Ends text t m = (s : State) (p : Operand) → continue text (operator_of t.kind) t s p ≡ end_at (Some m) t.span s (reduce 0 s.stack p)

-- the sign or word after a part
pub passes : {text : List ℕ} {s : State} {stack : List Frame} {ts : List Token} {p : Part} {t : Token} (r : Reads text 0 s stack ts p) (m : Mark) (u : State)
    → reduce 0 stack (operand_of p) ≡ record { stack = stack; operand = operand_of p } → Ends text t m
    → end_part m t.span (moved s r.open_stack (ahead.Read r.operand)) stack (operand_of p) ≡ Some u
    → Takes text (moved s r.open_stack (ahead.Read r.operand)) t u
passes {text} {s} {t = t} r m u waits ends e =
    let here = moved s r.open_stack (ahead.Read r.operand) in
    record { steps = ends here r.operand ∙ ap (end_at (Some m) t.span here) (r.closes ∙ waits) ∙ e }
