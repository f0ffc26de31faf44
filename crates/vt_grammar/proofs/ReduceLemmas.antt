use Rattle.std.proofs.Common.{◌≡◌, ℕ, max, List, [], ◌∷◌, refl, sym, ◌∙◌, ap}
use Rattle.std.specs.Prelude.{Option, Some, None}
use Rattle.vt_grammar.specs.declared.operand.Operand.{Operand}
use Rattle.vt_grammar.specs.declared.frame.Frame.{Frame}
use Rattle.vt_grammar.specs.declared.frame.Next.{Next}
use Rattle.vt_grammar.specs.declared.frame.Next.TheVariants as ahead
use Rattle.vt_grammar.specs.Machine.{State, Finished, shut, reduce, depth_over, depth_at, need, finish, finish_at, finish_with}
use Rattle.vt_grammar.proofs.DepthLemmas.{shut-depth}
use Rattle.vt_grammar.proofs.Running.{after}

-- What needs no sign to be closed keeps the depth of the whole.

-- what is closed keeps the depth of the whole
pub reduce-depth : (w : ℕ) (stack : List Frame) (p : Operand)
    → depth_over stack p.depth ≡ depth_over (reduce w stack p).stack (reduce w stack p).operand.depth
reduce-depth w [] p = refl
reduce-depth w (f ∷ stack) p = go (λ q. reduce-depth w stack q) (shut w f p) refl
  where
    go : ((q : Operand) → depth_over stack q.depth ≡ depth_over (reduce w stack q).stack (reduce w stack q).operand.depth)
        → (o : Option Operand) → shut w f p ≡ o
        → depth_over (f ∷ stack) p.depth ≡ depth_over (after w f stack p o).stack (after w f stack p o).operand.depth
    go deep None h = refl
    go deep (Some q) h = ap (λ d. depth_over stack d) (sym (shut-depth w f p q h)) ∙ deep q

finish_with-depth : (s : State) (stack : List Frame) (p : Operand) (f : Finished) (d : ℕ)
    → d ≡ depth_over stack p.depth → finish_with s stack p ≡ Some f → f.depth ≡ max s.deepest d
finish_with-depth s [] p f d h e = let same : record { defs = s.defs; main = p.expr; depth = max s.deepest p.depth } ≡ f = cc in rw h (sym (ap (λ (g : Finished). g.depth) same))
finish_with-depth s (top ∷ stack) p f d h e = cc

finish_at-depth : (s : State) (n : Next) (f : Finished) → finish_at s n ≡ Some f → f.depth ≡ max s.deepest (depth_at s.stack n)
finish_at-depth s ahead.Wanted f e = cc
finish_at-depth s (ahead.Awaits m) f e = cc
finish_at-depth s (ahead.Read p) f e = finish_with-depth s (reduce 0 s.stack p).stack (reduce 0 s.stack p).operand f _ (reduce-depth 0 s.stack p) e

-- a finished program is just as deep as was needed
pub finish-depth : (s : State) (f : Finished) → finish s ≡ Some f → f.depth ≡ need s
finish-depth s f e = finish_at-depth s s.next f e
