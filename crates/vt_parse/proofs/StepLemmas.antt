use Rattle.std.proofs.Common.{◌≡◌, ℕ, suc, ◌+◌, ◌≤◌, ◌<◌, max, Bool, true, false, List, [], ◌∷◌, refl, sym, ap, subst, ◌∙◌, arith, add-one}
use Rattle.std.specs.Prelude.{Option, Some, None, Result, Ok, Err, IfOk, IsTrue, is_some}
use Rattle.std.specs.declared.alloc.AllocError.{AllocError}
use Rattle.vt_lex.specs.declared.span.Span.{Span}
use Rattle.vt_lex.specs.declared.token.TokenKind.{TokenKind}
use Rattle.vt_lex.specs.declared.token.TokenKind.TheVariants as kind
use Rattle.vt_lex.specs.declared.token.Token.{Token}
use Rattle.vt_syntax.specs.declared.expr.Exprs.{Exprs}
use Rattle.vt_syntax.specs.declared.expr.ExprForm as form
use Rattle.vt_syntax.specs.declared.program.Def.{Def}
use Rattle.vt_syntax.specs.declared.program.Program.{Program}
use Rattle.vt_syntax.specs.SurfaceTrees.{exprs}
use Rattle.vt_syntax.specs.Spelling.{part, across, most_depth}
use Rattle.vt_grammar.specs.declared.operand.Operand.{Operand}
use Rattle.vt_grammar.specs.declared.mark.Mark.{Mark}
use Rattle.vt_grammar.specs.declared.start.Start.{Start}
use Rattle.vt_grammar.specs.declared.start.Start.TheVariants as start
use Rattle.vt_grammar.specs.declared.start.Opening.TheVariants as opening
use Rattle.vt_grammar.specs.declared.frame.Frame.{Frame}
use Rattle.vt_grammar.specs.declared.frame.Frame.TheVariants as frame
use Rattle.vt_grammar.specs.declared.frame.Naming.{Naming}
use Rattle.vt_grammar.specs.declared.frame.Next.{Next}
use Rattle.vt_grammar.specs.declared.frame.Next.TheVariants as ahead
use Rattle.vt_grammar.specs.Words.{start_of, operator_of, mark_of}
use Rattle.vt_grammar.specs.Frames.{operand_of, deeper, IsAdmitted}
use Rattle.vt_grammar.specs.Seen.{square_of, element_of, naming_of, is_list, innermost, is_innermost}
use Rattle.vt_grammar.specs.Machine.{State, Reduced, moved, reduce, join, argument, end_empty, begin, want, name, end_list, list_mark, end_part, end_at, follow, continue, step, step_at, await, depth_over, depth_at, need, finish_reduced, finish_with}
use Rattle.vt_parse.specs.Reading.{is_operand, IsFinishedWith, IsFinished}
use Rattle.vt_grammar.proofs.DepthLemmas.{depth_over-grows}
use Rattle.vt_grammar.proofs.OtherStacks.{name-moved, end_list-moved, end_part-moved, continue-moved}

-- What each function of the reader does is what the machine does.

-- only a dimension opens a choice
pub choice-is-dim : (k : TokenKind) → start_of k ≡ start.Opens opening.Choice → k ≡ kind.Dim
choice-is-dim = grind arith

-- an answer by what the machine does is one by what equals it
pub answers-as : (r : Result (Option State) AllocError) (o q : Option State) → o ≡ q → IfOk r (λ next. next ≡ o) → IfOk r (λ next. next ≡ q)
answers-as r o q e h = subst (λ (p : Option State). IfOk r (λ next. next ≡ p)) e h

-- a token where an expression or a name is wanted, by the innermost construct
module _ (text : List ℕ) (t : Token) (s : State) where
  pub want-name : (rest : List Frame) (n : Naming) → s.stack ≡ frame.Naming n ∷ rest
      → name text n t.kind t.span (moved s rest s.next) rest ≡ want text t s s.stack
  want-name rest n e = name-moved s rest s.next text n t.kind t.span rest ∙ ap (λ l. want text t s l) (sym e)

  want-part : (stack : List Frame) → innermost naming_of stack ≡ None → begin text (start_of t.kind) t.span s ≡ want text t s stack
  want-part [] h = refl
  want-part (frame.Naming n ∷ stack) h = absurd cc
  want-part (top ∷ stack) h = refl

  pub want-other : (first : Start) (rest : List Frame) → first ≡ start_of t.kind → innermost naming_of s.stack ≡ None → rest ≡ s.stack
      → begin text first t.span (moved s rest s.next) ≡ want text t s s.stack
  want-other first rest f h e = rw (f, e) (want-part s.stack h)

-- the elements of a list up to its bracket, by the innermost construct
module _ (at : Span) (es : Exprs) (deepest : ℕ) (s : State) (rest : List Frame) where
  pub list-closed : (stack : List Frame) (from span : Span) (p : Operand) (u : State) → stack ≡ s.stack → stack ≡ frame.Square from ∷ rest
      → span ≡ across from at → p ≡ operand_of (part span (form.List es) (suc deepest)) → u ≡ moved s rest (ahead.Read p)
      → Some u ≡ end_list at es (suc deepest) s s.stack
  list-closed stack from span p u same e a h k = rw (k, h, a, ← same, e) refl

  pub list-longer : (before : Operand) (longer : Exprs) (deeper : ℕ) → s.stack ≡ frame.Element before ∷ rest
      → longer ≡ exprs before.expr es → deeper ≡ max before.depth (deepest + 1)
      → end_list at longer (suc deeper) (moved s rest s.next) rest ≡ end_list at es (suc deepest) s s.stack
  list-longer before longer deeper e h d =
      end_list-moved s rest s.next at longer (suc deeper) rest ∙ rw (h, d, add-one) (sym (opened s.stack e))
    where
      opened : (stack : List Frame) → stack ≡ frame.Element before ∷ rest
          → end_list at es (suc deepest) s stack ≡ end_list at (exprs before.expr es) (suc (max before.depth (suc deepest))) s rest
      opened stack e = rw e refl

  pub list-deeper : (before : Operand) (deeper : ℕ) → s.stack ≡ frame.Element before ∷ rest → deeper ≡ max before.depth (deepest + 1)
      → depth_over s.stack deepest ≤ most_depth → depth_over rest deeper ≤ most_depth
  list-deeper before deeper e d h =
      let k = rw e at h in
      rw (d, add-one) k

-- no list goes on in the innermost construct
pub list-none : (at : Span) (es : Exprs) (depth : ℕ) (s : State) (stack : List Frame) → stack ≡ s.stack
    → innermost element_of s.stack ≡ None → innermost square_of stack ≡ None → None ≡ end_list at es depth s s.stack
list-none at es depth s stack e h k = let g = rw e at k in none s.stack h g
  where
    none : (stack : List Frame) → innermost element_of stack ≡ None → innermost square_of stack ≡ None → None ≡ end_list at es depth s stack
    none [] h k = refl
    none (frame.Square from ∷ stack) h k = absurd cc
    none (frame.Element before ∷ stack) h k = absurd cc
    none (top ∷ stack) h k = refl

-- a list without elements ends in its bracket alone
pub empty-none : (at : Span) (s : State) (stack : List Frame) → innermost square_of stack ≡ None → None ≡ end_empty at s stack
empty-none at s [] h = refl
empty-none at s (frame.Square from ∷ stack) h = absurd cc
empty-none at s (top ∷ stack) h = refl

-- what is reduced is as deep as was needed
pub reduced-admitted : (w : ℕ) (stack rest : List Frame) (p q : Operand)
    → depth_over stack p.depth ≡ depth_over (reduce w stack p).stack (reduce w stack p).operand.depth
    → reduce w stack p ≡ record { stack = rest; operand = q } → depth_over stack p.depth ≤ most_depth → depth_over rest q.depth ≤ most_depth
reduced-admitted w stack rest p q d e h = let k = rw e at d in rw (← k) h

-- an argument, or the end of a part
pub follow-argument : (text : List ℕ) (first : Start) (t : Token) (s : State) (p : Operand)
    → is_operand first ≡ true → follow text first t s p ≡ argument text first t.span (join None t.span s p)
follow-argument text (start.Leaf leaf) t s p e = refl
follow-argument text (start.Opens opening) t s p e = refl
follow-argument text other t s p e = cc

pub follow-end : (text : List ℕ) (first : Start) (t : Token) (s : State) (p : Operand)
    → is_operand first ≡ false → follow text first t s p ≡ end_at (mark_of t.kind) t.span s (reduce 0 s.stack p)
follow-end text (start.Leaf leaf) t s p e = cc
follow-end text (start.Opens opening) t s p e = cc
follow-end text other t s p e = refl

-- the depth of an operand that has been read
pub need-read : (s : State) (p : Operand) → s.next ≡ ahead.Read p → need s ≤ most_depth → depth_over s.stack p.depth ≤ most_depth
need-read s p e h = let k = rw e at h in omega arith

pub depth-read : (stack : List Frame) (next : Next) (p : Operand) → next ≡ ahead.Read p → most_depth < p.depth → most_depth < depth_at stack next
depth-read stack next p e h = let k = depth_over-grows stack p.depth in rw e (omega arith)

-- the end of the tokens
pub finished : (s : State) (p : Operand) (o : Option Program)
    → s.next ≡ ahead.Read p → IsFinishedWith s.defs (reduce 0 s.stack p) o → IsFinished s o
finished s p (Some program) e h = (max s.deepest (reduce 0 s.stack p).operand.depth, rw (e, h.1) (ended (reduce 0 s.stack p) h.0))
  where
    ended : (r : Reduced) → r.stack ≡ [] → finish_reduced s r ≡ Some (record { defs = s.defs; main = r.operand.expr; depth = max s.deepest r.operand.depth })
    ended r k = rw k refl
finished s p None e h = rw e (open-end (reduce 0 s.stack p).stack h)
  where
    open-end : (stack : List Frame) → (stack ≡ [] → ⊥) → finish_with s stack (reduce 0 s.stack p).operand ≡ None
    open-end [] h = absurd (h refl)
    open-end (top ∷ stack) h = refl

pub ended-here : (defs given : List Def) (stack rest : List Frame) (p q : Operand)
    → reduce 0 stack p ≡ record { stack = rest; operand = q } → given ≡ defs → rest ≡ []
    → IsFinishedWith defs (reduce 0 stack p) (Some (record { defs = given; main = q.expr }))
ended-here defs given stack rest p q e g h = rw (e, g) (h, refl)

pub ended-not : (stack rest : List Frame) (p q : Operand) → reduce 0 stack p ≡ record { stack = rest; operand = q }
    → (empty : Bool) → (rest ≡ [] → IsTrue empty) → empty ≡ false → (reduce 0 stack p).stack ≡ [] → ⊥
ended-not stack rest p q e empty h f k = let n = rw e at k in let t : empty ≡ true = h n in cc

-- a program is finished, in the answer of a call
pub finished-all : (s : State) (p : Operand) (r : Result (Option Program) AllocError)
    → s.next ≡ ahead.Read p → IfOk r (IsFinishedWith s.defs (reduce 0 s.stack p)) → IfOk r (IsFinished s)
finished-all s p (Ok o) e h = finished s p o e h
finished-all s p (Err fault) e h = tt

-- a sign or word after an operand, in the innermost construct
module _ (m : Mark) (at : Span) (s : State) (rest : List Frame) (top : Frame) (p : Operand) (here : s.stack ≡ top ∷ rest) where
  pub part-within : end_part m at (moved s rest s.next) (top ∷ rest) p ≡ end_part m at s s.stack p
  part-within = end_part-moved s rest s.next m at (top ∷ rest) p ∙ ap (λ l. end_part m at s l p) (sym here)

  pub part-admitted : depth_over s.stack p.depth ≤ most_depth → depth_over rest (deeper top p.depth) ≤ most_depth
  part-admitted h = rw here at h

-- in a list, and in no construct that waits for a sign
pub part-in-list : (m : Mark) (at : Span) (s : State) (stack : List Frame) (p : Operand)
    → is_innermost is_list stack ≡ true → list_mark m at s stack p ≡ end_part m at s stack p
part-in-list m at s [] p h = absurd cc
part-in-list m at s (frame.Square from ∷ stack) p h = refl
part-in-list m at s (frame.Element before ∷ stack) p h = refl
part-in-list m at s (top ∷ stack) p h = absurd cc

pub top-no-list : (stack rest : List Frame) (top : Frame) → is_innermost is_list stack ≡ false → stack ≡ top ∷ rest → is_list top ≡ false
top-no-list stack rest top h e = rw e at h

-- after what needs no sign has been closed
pub end-reduced : (o : Option Mark) (m : Mark) (at : Span) (s : State) (rest : List Frame) (p q : Operand)
    → o ≡ Some m → reduce 0 s.stack p ≡ record { stack = rest; operand = q }
    → end_part m at (moved s rest s.next) rest q ≡ end_at o at s (reduce 0 s.stack p)
end-reduced o m at s rest p q e h = rw (e, h) (end_part-moved s rest s.next m at rest q)

-- a token, by what comes next
module _ (text : List ℕ) (t : Token) (s : State) where
  step-as : (next : Next) → s.next ≡ next → step_at text s next t ≡ step text s t
  step-as next e = ap (λ n. step_at text s n t) (sym e)

  pub step-wanted : s.next ≡ ahead.Wanted → want text t (moved s s.stack ahead.Wanted) s.stack ≡ step text s t
  step-wanted e = ap (λ n. want text t (moved s s.stack n) s.stack) (sym e) ∙ step-as ahead.Wanted e

  await-as : (m : Mark) (o : Option Mark) → await m o (moved s s.stack ahead.Wanted) ≡ await m o s
  await-as m None = refl
  await-as m (Some found) = refl

  pub step-awaits : (m : Mark) (o : Option Mark) → s.next ≡ ahead.Awaits m → o ≡ mark_of t.kind → await m o (moved s s.stack ahead.Wanted) ≡ step text s t
  step-awaits m o e h = await-as m o ∙ ap (λ (q : Option Mark). await m q s) h ∙ step-as (ahead.Awaits m) e

  pub step-read : (p : Operand) → s.next ≡ ahead.Read p → continue text (operator_of t.kind) t (moved s s.stack ahead.Wanted) p ≡ step text s t
  step-read p e = continue-moved s ahead.Wanted text t p (operator_of t.kind) ∙ step-as (ahead.Read p) e

  -- an argument of what has been read, or the end of a part
  pub follow-joined : (first : Start) (joined : Option State) (p : Operand) → first ≡ start_of t.kind → is_operand first ≡ true
      → joined ≡ join None t.span s p → argument text first t.span joined ≡ follow text (start_of t.kind) t s p
  follow-joined first joined p e h j = rw (j, ← e) (sym (follow-argument text first t s p h))

  pub follow-ended : (first : Start) (o : Option Mark) (p : Operand) → first ≡ start_of t.kind → is_operand first ≡ false
      → o ≡ mark_of t.kind → end_at o t.span s (reduce 0 s.stack p) ≡ follow text (start_of t.kind) t s p
  follow-ended first o p e h m = rw (m, ← e) (sym (follow-end text first t s p h))

-- what is known of the depth, by what comes next
pub depth-admitted : (stack : List Frame) (next : Next) (p : Operand) (d : ℕ) (o : Option ℕ) → next ≡ ahead.Read p → d ≡ p.depth
    → IsAdmitted (depth_over stack d) o → IsAdmitted (depth_at stack next) o
depth-admitted stack next p d o e h a = let k = rw h at a in rw e k

pub some-admitted : (d : ℕ) (o : Option ℕ) → IsAdmitted d o → is_some o ≡ true → d ≤ most_depth
some-admitted d (Some found) a e = omega arith
some-admitted d None a e = cc

pub none-admitted : (d : ℕ) (o : Option ℕ) → IsAdmitted d o → is_some o ≡ false → most_depth < d
none-admitted d (Some found) a e = cc
none-admitted d None a e = a

-- what is needed is admitted where both of its parts are
module _ (s : State) (deepest next : Option ℕ) (one : Bool) (a : IsAdmitted s.deepest deepest) (is : one ≡ is_some deepest) where
  pub need-both : (other : Bool) → IsAdmitted (depth_at s.stack s.next) next → other ≡ is_some next → one ≡ true
      → (IsTrue other → need s ≤ most_depth) × (need s ≤ most_depth → IsTrue other)
  need-both true b h e = (λ _. let m = some-admitted s.deepest deepest a (sym is ∙ e) in let n = some-admitted (depth_at s.stack s.next) next b (sym h) in omega arith, λ _. refl)
  need-both false b h e = (λ t. cc, λ k. absurd (let n = none-admitted (depth_at s.stack s.next) next b (sym h) in omega arith))

  pub need-one : one ≡ false → (IsTrue one → need s ≤ most_depth) × (need s ≤ most_depth → IsTrue one)
  need-one e = (λ t. absurd (let f : one ≡ true = t in cc), λ k. absurd (let n = none-admitted s.deepest deepest a (sym is ∙ e) in omega arith))

pub need-refused : (n : ℕ) (b : Bool) → (n ≤ most_depth → IsTrue b) → b ≡ false → most_depth < n
need-refused n b h e = let k : n ≤ most_depth → ⊥ = (λ (l : n ≤ most_depth). let t : b ≡ true = h l in cc) in omega arith
