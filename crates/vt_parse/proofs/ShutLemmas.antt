use Rattle.std.proofs.Common.{◌≡◌, ℕ, ◌≤◌, false, List, [], ◌∷◌, refl, sym, subst, arith}
use Rattle.std.specs.Prelude.{Option, Some, None, Result, Ok, Err, IfOk}
use Rattle.std.specs.declared.alloc.AllocError.{AllocError}
use Rattle.vt_lex.specs.declared.span.Span.{Span}
use Rattle.vt_syntax.specs.declared.expr.Op.{Op}
use Rattle.vt_syntax.specs.Spelling.{most_depth}
use Rattle.vt_grammar.specs.declared.operand.Operand.{Operand}
use Rattle.vt_grammar.specs.declared.frame.Frame.{Frame}
use Rattle.vt_grammar.specs.declared.frame.Frame.TheVariants as frame
use Rattle.vt_grammar.specs.declared.frame.Tail.{Tail}
use Rattle.vt_grammar.specs.Frames.{both, closed, deeper}
use Rattle.vt_grammar.specs.Seen.{closes, is_innermost}
use Rattle.vt_grammar.specs.Machine.{shut, reduce, depth_over}
use Rattle.vt_grammar.proofs.DepthLemmas.{depth_over-grows, shut-depth}
use Rattle.vt_parse.specs.Reading.{IsShut}

-- One construct at a time is closed.

pub admitted-top : (stack rest : List Frame) (f : Frame) (d : ℕ)
    → stack ≡ f ∷ rest → depth_over stack d ≤ most_depth → deeper f d ≤ most_depth
admitted-top stack rest f d e h = let k = depth_over-grows rest (deeper f d) in let g = rw e at h in omega arith

pub record Shortened (w : ℕ) (stack rest : List Frame) (p q : Operand) : Type 0 where
  pub same : reduce w stack p ≡ reduce w rest q
  pub admitted : depth_over stack p.depth ≤ most_depth → depth_over rest q.depth ≤ most_depth

pub reduce-closed : (w : ℕ) (stack rest : List Frame) (f : Frame) (p q : Operand)
    → stack ≡ f ∷ rest → shut w f p ≡ Some q → Shortened w stack rest p q
reduce-closed w stack rest f p q e s = record {
  same = rw (e, reduce, s) refl;
  admitted = λ h. let g = rw e at h in rw (shut-depth w f p q s) g;
}

shut-open : (w : ℕ) (f : Frame) (p : Operand) → closes w f ≡ false → shut w f p ≡ None
shut-open = grind arith

-- nothing is closed where the innermost construct isn't
pub reduce-open : (w : ℕ) (stack rest : List Frame) (p : Operand)
    → is_innermost (closes w) stack ≡ false → rest ≡ stack → reduce w stack p ≡ record { stack = rest; operand = p }
reduce-open w [] rest p h e = rw e refl
reduce-open w (f ∷ stack) rest p h e = rw (reduce, shut-open w f p h, e) refl

pub shut-joint : (f : Frame) (op : Option Op) (at : Span) (left p : Operand) → f ≡ frame.Joint op at left → IsShut f p (both op at left p)
shut-joint f op at left p e = rw e (λ w h. rw h refl)

pub shut-tail : (f : Frame) (t : Tail) (p : Operand) → f ≡ frame.Tail t → IsShut f p (closed t p)
shut-tail f t p e = rw e (λ w h. rw h refl)

pub shut-as : (r : Result Operand AllocError) (f : Frame) (p q : Operand) → IsShut f p q → IfOk r (λ last. last ≡ q) → IfOk r (IsShut f p)
shut-as (Ok last) f p q h e = subst (IsShut f p) (sym e) h
shut-as (Err fault) f p q h e = tt
