use Rattle.std.proofs.Common.{◌≡◌, ℕ, ◌+◌, ◌<◌, ◌≤◌, max, List, [], ◌∷◌, length, get_or, drop, refl, arith, drop-cons, add-one, sym, ◌∙◌, ap}
use Rattle.std.proofs.lemmas.List.{drop_all}
use Rattle.std.specs.Prelude.{Some}
use Rattle.vt_grammar.specs.declared.operand.Operand.{Operand}
use Rattle.vt_grammar.specs.declared.frame.Frame.{Frame}
use Rattle.vt_grammar.specs.Frames.{deeper}
use Rattle.vt_grammar.specs.Machine.{shut, depth_over}

-- How deep open constructs are.

pub max_assoc : (a b c : ℕ) → max (max a b) c ≡ max a (max b c)
max_assoc a b c = omega arith

-- a construct is no less deep than its part
deeper-grows : (f : Frame) (d : ℕ) → d ≤ deeper f d
deeper-grows = grind arith

-- nor are all of them
pub depth_over-grows : (stack : List Frame) (d : ℕ) → d ≤ depth_over stack d
depth_over-grows [] d = omega arith
depth_over-grows (f ∷ stack) d = let h = deeper-grows f d in let k = depth_over-grows stack (deeper f d) in omega arith

-- the innermost of those that are left
pub depth_over-at : (stack : List Frame) (i d : ℕ) (f : Frame)
    → i < length stack → f ≡ get_or stack i f
    → depth_over (drop i stack) d ≡ depth_over (drop (i + 1) stack) (deeper f d)
depth_over-at stack i d f h e = rw (add-one, drop-cons stack i f) (rw (← e) refl)

-- a loop over the constructs from this one on: what is too deep inside is too deep outside
module _ (items now : List Frame) (inside depth i d : ℕ) (same_items : items ≡ now)
    (same : depth_over (drop i items) d ≡ depth_over (drop inside items) depth) where
  pub loop-exceeds : (f : Frame) → i < length items → f ≡ get_or items i f → 256 < deeper f d → 256 < depth_over (drop inside now) depth
  loop-exceeds f h e over =
      let k = depth_over-grows (drop (i + 1) items) (deeper f d) in
      let s = depth_over-at items i d f h e in
      rw (← same_items) (rw (← same, s) (omega arith))

  pub loop-next : (f : Frame) (next : ℕ) → i < length items → f ≡ get_or items i f → next ≡ deeper f d
      → depth_over (drop (i + 1) items) next ≡ depth_over (drop inside items) depth
  loop-next f next h e n = rw n (sym (depth_over-at items i d f h e) ∙ same)

  pub loop-end : length items ≤ i → d ≡ depth_over (drop inside now) depth
  loop-end h = rw (← same_items) (let e : drop i items ≡ [] = drop_all i items h in let k = ap (λ (l : List Frame). depth_over l d) e in sym k ∙ same)

-- what an operand closes is as deep as its construct was said to be
pub shut-depth : (w : ℕ) (f : Frame) (p q : Operand) → shut w f p ≡ Some q → q.depth ≡ deeper f p.depth
shut-depth = grind arith

-- depths that are admitted fit
pub over-fits : (stack : List Frame) (d : ℕ) → depth_over stack d ≤ 256 → d < 18446744073709551616
over-fits stack d h = let k = depth_over-grows stack d in omega arith
