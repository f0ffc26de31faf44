use Rattle.std.proofs.Common.{◌≡◌, ℕ, suc, ◌≤◌, max, Bool, true, false, List, [], ◌∷◌, ◌++◌, Option, Some, None, refl, subst, arith}
use Rattle.std.specs.Prelude.{if◌then◌else◌}
use Rattle.std.proofs.lemmas.Option.{same_Some}
use Rattle.vt_lex.specs.declared.span.Span.{Span}
use Rattle.vt_lex.specs.declared.token.TokenKind.{TokenKind}
use Rattle.vt_lex.specs.declared.token.Token.{Token}
use Rattle.vt_syntax.specs.declared.expr.Op.{Op}
use Rattle.vt_syntax.specs.declared.expr.Exprs.{Exprs}
use Rattle.vt_syntax.specs.SurfaceTrees.{exprs}
use Rattle.vt_syntax.specs.Infixes.{left_level, infix_of}
use Rattle.vt_grammar.specs.declared.operand.Operand.{Operand}
use Rattle.vt_grammar.specs.declared.operand.Binder.{Binder}
use Rattle.vt_grammar.specs.declared.mark.Mark.{Mark}
use Rattle.vt_grammar.specs.declared.mark.Mark.TheVariants as mark
use Rattle.vt_grammar.specs.declared.start.Start.{Start}
use Rattle.vt_grammar.specs.declared.start.Start.TheVariants as start
use Rattle.vt_grammar.specs.declared.start.Leaf.{Leaf}
use Rattle.vt_grammar.specs.declared.start.Opening.{Opening}
use Rattle.vt_grammar.specs.declared.start.Statement.{Statement}
use Rattle.vt_grammar.specs.declared.frame.Frame.{Frame}
use Rattle.vt_grammar.specs.declared.frame.Frame.TheVariants as frame
use Rattle.vt_grammar.specs.declared.frame.Middle.{Middle}
use Rattle.vt_grammar.specs.declared.frame.Right.{Right}
use Rattle.vt_grammar.specs.declared.frame.Naming.{Naming}
use Rattle.vt_grammar.specs.declared.frame.Naming.TheVariants as naming
use Rattle.vt_grammar.specs.declared.frame.Next.{Next}
use Rattle.vt_grammar.specs.declared.frame.Next.TheVariants as ahead
use Rattle.vt_grammar.specs.Words.{start_of, mark_of}
use Rattle.vt_grammar.specs.Frames.{defined, leaf_at, opened, after_opening, stated, after_mark, awaited, passed, after_part, bracket, enclosed, with_name, mark_after_name, made_recursive, deeper_middle, deeper_right, deeper}
use Rattle.vt_grammar.specs.Machine.{State, initial, moved, same_mark, shut, Reduced, reduce, may_join, pending, end_empty, define, begin, name_recursive, name, want, await, end_list, list_mark, paren_mark, end_part, end_at, argument, follow, continue, step, run, depth_over, depth_wanted, depth_at, need}
use Rattle.vt_grammar.proofs.Running.{after}
use Rattle.vt_grammar.proofs.ReduceLemmas.{reduce-depth}

-- The least depth of any completion never falls, and is the depth of what is finished.

-- deeper parts make deeper constructs
deeper-monotone : (top : Frame) (c d : ℕ) → c ≤ d → deeper top c ≤ deeper top d
deeper-monotone = grind arith

over-monotone : (stack : List Frame) (c d : ℕ) → c ≤ d → depth_over stack c ≤ depth_over stack d
over-monotone [] c d below = below
over-monotone (top ∷ stack) c d below = over-monotone stack _ _ (deeper-monotone top c d below)

-- definitions are at the bottom
abbrev IsBottom : List Frame → Type 0
IsBottom [] = Unit {0}
IsBottom (top ∷ stack) = ⊥

abbrev IsGrounded : List Frame → Type 0
IsGrounded [] = Unit {0}
IsGrounded (frame.Body recursive name ∷ stack) = IsBottom stack
IsGrounded (frame.Naming (naming.DefName recursive) ∷ stack) = IsBottom stack
IsGrounded (top ∷ stack) = IsGrounded stack

-- no list has just been opened
abbrev IsNoList : List Frame → Type 0
IsNoList (frame.Square from ∷ stack) = ⊥
IsNoList other = Unit {0}

-- what holds of each state that is reached
abbrev IsPlaced : List Frame → Next → Type 0
IsPlaced stack (ahead.Awaits m) = IsGrounded stack × IsNoList stack
IsPlaced stack other = IsGrounded stack

-- a state that may be reached, and whose least depth is at least this
record Rises (least : ℕ) (u : State) : Type 0 where
  placed : IsPlaced u.stack u.next
  rises : least ≤ need u

abbrev AnyRises : ℕ → Option State → Type 0
AnyRises least None = Unit {0}
AnyRises least (Some u) = Rises least u

-- the least depth over other open constructs
moved-rises : (s : State) (d : ℕ) (stack : List Frame) (next : Next) → IsPlaced stack next → d ≤ depth_at stack next → Rises (max s.deepest d) (moved s stack next)
moved-rises s d stack next placed below = record { placed = placed; rises = omega arith }

if-rises : (test : Bool) (least : ℕ) (u : State) → Rises least u → AnyRises least (if test then Some u else None)
if-rises = grind arith

-- a list that has just been opened needs no element
wanted-over : (stack : List Frame) → depth_wanted stack ≤ depth_over stack 1
wanted-over = grind (arith, over-monotone)

over-wanted : (stack : List Frame) → IsNoList stack → depth_over stack 1 ≤ depth_wanted stack
over-wanted = grind arith

-- definitions stay at the bottom
shut-grounded : (w : ℕ) (top : Frame) (stack : List Frame) (p q : Operand) → IsGrounded (top ∷ stack) → shut w top p ≡ Some q → IsGrounded stack
shut-grounded = grind arith

reduce-grounded : (w : ℕ) (stack : List Frame) (p : Operand) → IsGrounded stack → IsGrounded (reduce w stack p).stack
reduce-grounded w [] p grounded = tt
reduce-grounded w (top ∷ stack) p grounded = go (λ q g. reduce-grounded w stack q g) (shut w top p) refl
  where
    go : ((q : Operand) → IsGrounded stack → IsGrounded (reduce w stack q).stack) → (o : Option Operand) → shut w top p ≡ o
        → IsGrounded (after w top stack p o).stack
    go same None e = grounded
    go same (Some q) e = same q (shut-grounded w top stack p q grounded e)

-- a token where an expression is wanted
leaf-depth : (text : List ℕ) (leaf : Leaf) (at : Span) → (leaf_at text leaf at).depth ≡ 1
leaf-depth = grind arith

opened-rises : (text : List ℕ) (opening : Opening) (at : Span) (s : State) (stack : List Frame) → IsGrounded stack
    → Rises (max s.deepest (depth_wanted stack)) (moved s (opened text opening at ∷ stack) (after_opening opening))
opened-rises = grind (arith, moved-rises, wanted-over, over-monotone)

stated-rises : (first : Statement) (at : Span) (s : State) (stack : List Frame) → IsGrounded stack
    → Rises (max s.deepest (depth_wanted stack)) (moved s (stated first at ∷ stack) ahead.Wanted)
stated-rises = grind (arith, moved-rises, wanted-over, over-monotone)

define-rises : (s : State) (stack : List Frame) → AnyRises (max s.deepest (depth_wanted stack)) (define s stack)
define-rises = grind (arith, moved-rises)

empty-rises : (at : Span) (s : State) (stack : List Frame) → IsGrounded stack → AnyRises (max s.deepest (depth_wanted stack)) (end_empty at s stack)
empty-rises = grind (arith, moved-rises)

begin-rises : (text : List ℕ) (first : Start) (at : Span) (s : State) → IsGrounded s.stack → AnyRises (max s.deepest (depth_wanted s.stack)) (begin text first at s)
begin-rises = grind (arith, moved-rises, opened-rises, stated-rises, define-rises, empty-rises, if-rises, leaf-depth, wanted-over)

-- a token where a name is wanted
recursive-rises : (n : Naming) (s : State) (stack : List Frame) → IsGrounded (frame.Naming n ∷ stack)
    → AnyRises (max s.deepest (depth_over (frame.Naming n ∷ stack) 1)) (name_recursive s stack (made_recursive n))
recursive-rises = grind (arith, moved-rises)

with_name-rises : (n : Naming) (b : Binder) (s : State) (stack : List Frame) → IsGrounded (frame.Naming n ∷ stack)
    → Rises (max s.deepest (depth_over (frame.Naming n ∷ stack) 1)) (moved s (with_name n b ∷ stack) (ahead.Awaits (mark_after_name n)))
with_name-rises = grind (arith, moved-rises)

name-rises : (text : List ℕ) (n : Naming) (what : TokenKind) (at : Span) (s : State) (stack : List Frame) → IsGrounded (frame.Naming n ∷ stack)
    → AnyRises (max s.deepest (depth_over (frame.Naming n ∷ stack) 1)) (name text n what at s stack)
name-rises = grind (arith, with_name-rises, recursive-rises)

want-rises : (text : List ℕ) (t : Token) (s : State) (stack : List Frame) (next : Next) → IsGrounded stack
    → AnyRises (max s.deepest (depth_wanted stack)) (want text t (moved s stack next) stack)
want-rises = grind (arith, begin-rises, name-rises)

-- a sign that was awaited
mark-rises : (m : Mark) (s : State) (stack : List Frame) → IsGrounded stack → IsNoList stack → Rises (max s.deepest (depth_over stack 1)) (moved s stack (after_mark m))
mark-rises = grind (arith, moved-rises, over-wanted)

await-rises : (m : Mark) (found : Option Mark) (s : State) → IsGrounded s.stack → IsNoList s.stack → AnyRises (max s.deepest (depth_over s.stack 1)) (await m found s)
await-rises = grind (arith, mark-rises, if-rises)

-- a joint on what has been reduced
joint-rises : (op : Option Op) (at : Span) (s : State) (r : Reduced) → IsGrounded r.stack
    → Rises (max s.deepest (depth_over r.stack r.operand.depth)) (moved s (frame.Joint op at r.operand ∷ r.stack) ahead.Wanted)
joint-rises op at s r grounded = moved-rises s _ _ _ grounded (over-monotone r.stack _ _ (omega arith))

argument-rises : (text : List ℕ) (first : Start) (at : Span) (s : State) (r : Reduced) → IsGrounded r.stack
    → AnyRises (max s.deepest (depth_over r.stack r.operand.depth)) (argument text first at (pending None at s r))
argument-rises text first at s r grounded = go (may_join None r.stack)
  where
    joint : State
    joint = moved s (frame.Joint None at r.operand ∷ r.stack) ahead.Wanted

    on : (o : Option State) → AnyRises (need joint) o → AnyRises (max s.deepest (depth_over r.stack r.operand.depth)) o
    on None rises = tt
    on (Some u) rises = record { placed = rises.placed; rises = omega (arith, rises.rises, (joint-rises None at s r grounded).rises) }

    go : (test : Bool) → AnyRises (max s.deepest (depth_over r.stack r.operand.depth)) (argument text first at (if test then Some joint else None))
    go false = tt
    go true = on _ (begin-rises text first at joint grounded)

-- a sign or word after an operand, in what waits for it
end_list-rises : (at : Span) (es : Exprs) (depth : ℕ) (s : State) (stack : List Frame) → IsGrounded stack
    → AnyRises (max s.deepest (depth_over stack depth)) (end_list at es (suc depth) s stack)
end_list-rises at es depth s (frame.Square from ∷ stack) grounded = moved-rises s _ _ _ grounded (omega arith)
end_list-rises at es depth s (frame.Element before ∷ stack) grounded =
    end_list-rises at (exprs before.expr es) (max before.depth (suc depth)) s stack grounded
end_list-rises at es depth s other grounded = tt

list_mark-rises : (m : Mark) (at : Span) (s : State) (stack : List Frame) (p : Operand) → IsGrounded stack
    → AnyRises (max s.deepest (depth_over stack p.depth)) (list_mark m at s stack p)
list_mark-rises = grind (arith, moved-rises, over-monotone, end_list-rises)

paren_mark-rises : (m : Mark) (at : Span) (s : State) (from : Span) (stack : List Frame) (p : Operand) → IsGrounded stack
    → AnyRises (max s.deepest (depth_over stack (suc p.depth))) (paren_mark m at s from stack p)
paren_mark-rises = grind (arith, moved-rises, over-monotone)

passed-rises : (m : Middle) (p : Operand) (s : State) (stack : List Frame) → IsGrounded stack
    → Rises (max s.deepest (depth_over stack (deeper_middle m p.depth))) (moved s (passed m p ∷ stack) (after_part m))
passed-rises = grind (arith, moved-rises, over-monotone)

enclosed-depth : (r : Right) (p : Operand) (at : Span) → (enclosed r p at).depth ≡ deeper_right r p.depth
enclosed-depth = grind arith

body-rises : (recursive : Bool) (name : Binder) (s : State) (stack : List Frame) (p : Operand) → IsBottom stack
    → Rises (max s.deepest (depth_over stack (max p.depth 1))) (record { defs = s.defs ++ defined recursive name p ∷ []; deepest = max s.deepest p.depth; stack = stack; next = ahead.Wanted })
body-rises = grind arith

end_part-rises : (m : Mark) (at : Span) (s : State) (stack : List Frame) (p : Operand) → IsGrounded stack
    → AnyRises (max s.deepest (depth_over stack p.depth)) (end_part m at s stack p)
end_part-rises m at s [] p grounded = tt
end_part-rises m at s (frame.Joint op span left ∷ stack) p grounded = tt
end_part-rises m at s (frame.Tail t ∷ stack) p grounded = tt
end_part-rises m at s (frame.Middle middle ∷ stack) p grounded = if-rises (same_mark m (awaited middle)) _ _ (passed-rises middle p s stack grounded)
end_part-rises m at s (frame.Right r ∷ stack) p grounded =
    if-rises (same_mark m (bracket r)) _ _ (moved-rises s _ _ (ahead.Read (enclosed r p at)) grounded (rw (enclosed-depth r p at) (omega arith)))
end_part-rises m at s (frame.Paren from ∷ stack) p grounded = paren_mark-rises m at s from stack p grounded
end_part-rises m at s (frame.Square from ∷ stack) p grounded = list_mark-rises m at s (frame.Square from ∷ stack) p grounded
end_part-rises m at s (frame.Element before ∷ stack) p grounded = list_mark-rises m at s (frame.Element before ∷ stack) p grounded
end_part-rises m at s (frame.Body recursive name ∷ stack) p grounded = if-rises (same_mark m mark.Semicolon) _ _ (body-rises recursive name s stack p grounded)
end_part-rises m at s (frame.Naming n ∷ stack) p grounded = tt

end_at-rises : (found : Option Mark) (at : Span) (s : State) (r : Reduced) → IsGrounded r.stack
    → AnyRises (max s.deepest (depth_over r.stack r.operand.depth)) (end_at found at s r)
end_at-rises = grind (arith, end_part-rises)

-- a token after an operand
follow-rises : (text : List ℕ) (first : Start) (t : Token) (s : State) (p : Operand) → IsGrounded s.stack
    → AnyRises (max s.deepest (depth_over s.stack p.depth)) (follow text first t s p)
follow-rises text (start.Leaf leaf) t s p grounded =
    rw (← reduce-depth 8 s.stack p) at (argument-rises text (start.Leaf leaf) t.span s (reduce 8 s.stack p) (reduce-grounded 8 s.stack p grounded))
follow-rises text (start.Opens opening) t s p grounded =
    rw (← reduce-depth 8 s.stack p) at (argument-rises text (start.Opens opening) t.span s (reduce 8 s.stack p) (reduce-grounded 8 s.stack p grounded))
follow-rises text other t s p grounded =
    rw (← reduce-depth 0 s.stack p) at (end_at-rises (mark_of t.kind) t.span s (reduce 0 s.stack p) (reduce-grounded 0 s.stack p grounded))

continue-rises : (text : List ℕ) (op : Option Op) (t : Token) (s : State) (p : Operand) → IsGrounded s.stack
    → AnyRises (max s.deepest (depth_over s.stack p.depth)) (continue text op t s p)
continue-rises text None t s p grounded = follow-rises text (start_of t.kind) t s p grounded
continue-rises text (Some op) t s p grounded =
    let w = left_level (infix_of (Some op)) in
    let r = reduce w s.stack p in
    rw (← reduce-depth w s.stack p) at (if-rises (may_join (Some op) r.stack) _ _ (joint-rises (Some op) t.span s r (reduce-grounded w s.stack p grounded)))

-- one token, from a state that is reached
step-rises : (text : List ℕ) (s : State) (stack : List Frame) (next : Next) (t : Token) → IsPlaced stack next
    → AnyRises (need (moved s stack next)) (step text (moved s stack next) t)
step-rises = grind (arith, want-rises, await-rises, continue-rises)

run-rises : (text : List ℕ) (us : List Token) (s u : State) → IsPlaced s.stack s.next → run text s us ≡ Some u → Rises (need s) u
run-rises text [] s u placed e = subst (Rises (need s)) (same_Some s u e) (record { placed = placed; rises = omega arith })
run-rises text (t ∷ us) s u placed e = go (step text s t) (step-rises text s s.stack s.next t placed) (λ next. run-rises text us next u) e
  where
    go : (o : Option State) → AnyRises (need s) o → ((next : State) → IsPlaced next.stack next.next → run text next us ≡ Some u → Rises (need next) u)
        → (elim o [ Some next ↦ run text next us | None ↦ None ]) ≡ Some u → Rises (need s) u
    go None rises on e = absurd (cc)
    go (Some next) rises on e =
        let later = on next rises.placed e in
        record { placed = later.placed; rises = omega (arith, rises.rises, later.rises) }

-- the least depth never falls
pub need_rises : (text : List ℕ) (ts us : List Token) (s u : State)
    → run text initial ts ≡ Some s → run text s us ≡ Some u → need s ≤ need u
need_rises text ts us s u e f = (run-rises text us s u (run-rises text ts initial s tt e).placed f).rises
