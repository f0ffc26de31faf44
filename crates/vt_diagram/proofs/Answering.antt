use Rattle.std.proofs.Common.{◌≡◌, ℕ, zero, suc, ◌+◌, ◌<◌, ◌≤◌, List, length, set, slice_get, Option, Some, None, refl, ap, sym, subst, ◌∙◌, arith}
use Rattle.vt_dec.specs.declared.side.Side.{Side}
use Rattle.vt_dec.specs.declared.side.Side.TheVariants.{Left, Right}
use Rattle.vt_dec.specs.Decisions.{rights}
use Rattle.vt_diagram.specs.declared.entry.Entry.{Entry}
use Rattle.vt_diagram.specs.declared.operation.Operation.{Operation}
use Rattle.vt_diagram.specs.Answers.{IsAnswer, IsCut, AreParts, AreValues, question}
use Rattle.vt_diagram.specs.Budgets.{IsWithin, spent}
use Rattle.vt_diagram.specs.Operations.{made_of}
use Rattle.vt_diagram.specs.Tables.{tree_at, IsJoined, Grows}
use Rattle.vt_diagram.specs.Trees.{Tree, Tip, value_in, IsOrdered, by_side}
use Rattle.vt_diagram.proofs.Growth.{grows_on}
use Rattle.vt_diagram.proofs.Remembering.{answer-grown}
use Rattle.vt_diagram.proofs.Sides.{rights-to_left, value_in-set}

-- What is put together of what was made of the sides.

-- ---- two values

pub values-answer : (bound : ℕ) (old new : List Entry) (budget : Option ℕ) (operation : Operation) (one other value own id made : ℕ) → Grows old new → one < length old → other < length old
    → AreValues old budget one other value own → id < length new → tree_at new id ≡ Tip made → made ≡ made_of operation value own → IsAnswer bound new (question budget operation one other) id
values-answer bound old new budget operation one other value own id made grows first second values within is made_is = record {
  first = omega (arith, grows.more);
  second = omega (arith, grows.more);
  within = within;
  at_each = λ d h.
      let both = values d h in
      ap (value_in d) is ∙ made_is ∙ (λ i. made_of operation (sym both.0 i) (sym both.1 i)) ∙ (λ i. made_of operation (value_in d (sym (grows.kept one first) i)) (value_in d (sym (grows.kept other second) i)));
  ordered = λ from a b. subst (IsOrdered bound from) (sym is) tt;
}

-- ---- two sides

-- where a decision takes Right, the right side sees it with what is left of the budget
within-right : (budget : Option ℕ) (d : List Side) (dim : ℕ) → (budget ≡ Some 0 → ⊥) → IsWithin budget d → slice_get d dim ≡ Some Right → IsWithin (spent budget) (set d dim Left)
within-right None d dim rich within takes = tt
within-right (Some zero) d dim rich within takes = absurd (rich refl)
within-right (Some (suc budget)) d dim rich within takes = omega (arith, rights-to_left d dim takes)

cut-grown : (bound : ℕ) (old new : List Entry) (dim id left right : ℕ) → Grows old new → id < length old → IsCut bound old dim id left right → IsCut bound new dim id left right
cut-grown bound old new dim id left right grows within cut =
    let x = grows.kept id within in
    let l = grows.kept left (omega (arith, cut.left_in)) in
    let r = grows.kept right (omega (arith, cut.right_in)) in
    record {
      at_each = λ d. rw (x, l, r) (cut.at_each d);
      left_in = cut.left_in;
      right_in = cut.right_in;
      left_ordered = rw l cut.left_ordered;
      right_ordered = rw r cut.right_ordered;
    }

module _ (bound : ℕ) (entries : List Entry) (budget : Option ℕ) (operation : Operation) (one other dim : ℕ) (lefts rights' : ℕ × ℕ) (left right id : ℕ) (rich : budget ≡ Some 0 → ⊥)
    (first : IsCut bound entries dim one lefts.0 rights'.0) (second : IsCut bound entries dim other lefts.1 rights'.1) (l : IsAnswer bound entries (question budget operation lefts.0 lefts.1) left)
    (r : IsAnswer bound entries (question (spent budget) operation rights'.0 rights'.1) right) (made : IsJoined bound entries dim left right id) where
  at_right : (d : List Side) → IsWithin budget d → slice_get d dim ≡ Some Right
      → value_in d (tree_at entries right) ≡ made_of operation (value_in d (tree_at entries rights'.0)) (value_in d (tree_at entries rights'.1))
  at_right d h takes =
      let here = r.at_each (set d dim Left) (within-right budget d dim rich h takes) in
      let same = λ (tree : Tree) (ordered : IsOrdered bound (dim + 1) tree). value_in-set bound (dim + 1) dim Left d tree ordered (omega arith) in
      let r_ordered = r.ordered (dim + 1) first.right_ordered second.right_ordered in
      rw (same (tree_at entries right) r_ordered, same (tree_at entries rights'.0) first.right_ordered, same (tree_at entries rights'.1) second.right_ordered) at here

  at_side : (d : List Side) → IsWithin budget d → (side : Option Side) → slice_get d dim ≡ side
      → by_side side (value_in d (tree_at entries left)) (value_in d (tree_at entries right))
      ≡ made_of operation (by_side side (value_in d (tree_at entries lefts.0)) (value_in d (tree_at entries rights'.0))) (by_side side (value_in d (tree_at entries lefts.1)) (value_in d (tree_at entries rights'.1)))
  at_side d h None takes = l.at_each d h
  at_side d h (Some Left) takes = l.at_each d h
  at_side d h (Some Right) takes = at_right d h takes

  parts-answer : one < length entries → other < length entries → ((from : ℕ) → IsOrdered bound from (tree_at entries one) → IsOrdered bound from (tree_at entries other) → from ≤ dim)
      → IsAnswer bound entries (question budget operation one other) id
  parts-answer a b least = record {
    first = a;
    second = b;
    within = made.within;
    at_each = λ d h. made.at_each d ∙ at_side d h (slice_get d dim) refl ∙ (λ i. made_of operation (sym (first.at_each d) i) (sym (second.at_each d) i));
    ordered = λ from x y. made.ordered from (least from x y);
  }

-- the same, where the table grew at each step
pub combined : (bound : ℕ) (first second third last : List Entry) (budget left_over : Option ℕ) (operation : Operation) (one other dim : ℕ) (lefts rights : ℕ × ℕ) (left right id : ℕ)
    → one < length first → other < length first → (budget ≡ Some 0 → ⊥) × AreParts bound first one other dim lefts rights → Grows first second → IsAnswer bound second (question budget operation lefts.0 lefts.1) left
    → left_over ≡ spent budget → Grows second third → IsAnswer bound third (question left_over operation rights.0 rights.1) right → Grows third last → IsJoined bound last dim left right id
    → IsAnswer bound last (question budget operation one other) id
combined bound first second third last budget left_over operation one other dim lefts rights left right id a b split g1 l over g2 r g3 made =
    let g23 = grows_on second third last g2 g3 in
    let grows = grows_on first second last g1 g23 in
    let first_cut = cut-grown bound first last dim one lefts.0 rights.0 grows a split.1.first in
    let second_cut = cut-grown bound first last dim other lefts.1 rights.1 grows b split.1.second in
    let on_left = answer-grown bound second last (question budget operation lefts.0 lefts.1) left g23 l in
    let on_right = subst (λ own. IsAnswer bound last (question own operation rights.0 rights.1) right) over (answer-grown bound third last (question left_over operation rights.0 rights.1) right g3 r) in
    parts-answer bound last budget operation one other dim lefts rights left right id split.0 first_cut second_cut on_left on_right made (omega (arith, grows.more)) (omega (arith, grows.more))
    (λ from x y. split.1.least from (subst (IsOrdered bound from) (grows.kept one a) x) (subst (IsOrdered bound from) (grows.kept other b) y))
