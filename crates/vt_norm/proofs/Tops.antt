use Rattle.std.proofs.Common.{◌≡◌, ◌≢◌, ℕ, ◌==◌, cond, true, false, refl, sym, ap, ◌∙◌, Decides}
use Rattle.std.proofs.lemmas.Bool.{and_parts, and_from, eq-eqb, eqb-true, both_ways, false_from_ne_true}
use Rattle.std.proofs.lemmas.Slice.Eq.{bytes_eq-Decides}
use Rattle.vt_type.specs.declared.head.Head.{Head}
use Rattle.vt_type.specs.declared.head.Head.TheVariants.{Int, Text, Pair, Fun, Data}
use Rattle.vt_type.specs.declared.head.Head.TheVariants as head
use Rattle.vt_type.specs.Plain.{arity}
use Rattle.vt_norm.specs.declared.root.Top.{Top}
use Rattle.vt_norm.specs.declared.root.Top.TheVariants.{Made, Named, Wrong}
use Rattle.vt_norm.specs.Diagrams.{shown, head_kind, head_number, same_head, same_top}

-- Roots are compared exactly.

-- the head with these numbers
abbrev head_of : ℕ → ℕ → ℕ → Head
head_of kind number parameters =
    cond (kind == 0) Int (cond (kind == 1) head.Bool (cond (kind == 2) Text (cond (kind == 3) head.List (cond (kind == 4) Pair (cond (kind == 5) Fun (Data number parameters))))))

head_of-numbers : (top : Head) → head_of (head_kind top) (head_number top) (arity top) ≡ top
head_of-numbers Int = refl
head_of-numbers head.Bool = refl
head_of-numbers Text = refl
head_of-numbers head.List = refl
head_of-numbers Pair = refl
head_of-numbers Fun = refl
head_of-numbers (Data number parameters) = refl

same_head-true : (one other : Head) → same_head one other ≡ true → one ≡ other
same_head-true one other h =
    let kinds = and_parts (head_kind one == head_kind other) _ h in
    let numbers = and_parts (head_number one == head_number other) _ kinds.1 in
    let k = eqb-true _ _ kinds.0 in
    let n = eqb-true _ _ numbers.0 in
    let a = eqb-true _ _ numbers.1 in
    sym (head_of-numbers one) ∙ (rw (k, n, a) refl) ∙ head_of-numbers other

same_head-refl : (top : Head) → same_head top top ≡ true
same_head-refl top =
    and_from _ _ (eq-eqb (head_kind top) _ refl) (and_from _ _ (eq-eqb (head_number top) _ refl) (eq-eqb (arity top) _ refl))

pub same_top-true : (one other : Top) → same_top one other ≡ true → one ≡ other
same_top-true (Made one) (Made other) h = ap Made (same_head-true one other h)
same_top-true (Named one) (Named other) h = ap Named ((bytes_eq-Decides one other).0 h)
same_top-true Wrong Wrong h = refl
same_top-true (Made one) (Named other) h = cc
same_top-true (Made one) Wrong h = cc
same_top-true (Named one) (Made other) h = cc
same_top-true (Named one) Wrong h = cc
same_top-true Wrong (Made other) h = cc
same_top-true Wrong (Named other) h = cc

pub same_top-refl : (top : Top) → same_top top top ≡ true
same_top-refl (Made top) = same_head-refl top
same_top-refl (Named name) = (bytes_eq-Decides name name).1 refl
same_top-refl Wrong = refl

pub same_top-Decides : (one other : Top) → Decides (same_top one other) (one ≡ other)
same_top-Decides one other = (same_top-true one other, λ e. rw e (same_top-refl other))

-- roots that compare as different are different
pub same_top-false : (one other : Top) → same_top one other ≡ false → one ≢ other
same_top-false one other h e = both_ways _ h ((same_top-Decides one other).1 e)

-- different roots compare as different
pub differing_tops : (one other : Top) → one ≢ other → same_top one other ≡ false
differing_tops one other h = false_from_ne_true _ (λ e. h (same_top-true one other e))

-- a root shows as itself alone
pub shown-one : (one other : Top) → shown one ≡ shown other → one ≡ other
shown-one (Made one) (Made other) h = let e : one ≡ other = cc in ap Made e
shown-one (Named one) (Named other) h = let e : one ≡ other = cc in ap Named e
shown-one Wrong Wrong h = refl
shown-one (Made one) (Named other) h = cc
shown-one (Made one) Wrong h = cc
shown-one (Named one) (Made other) h = cc
shown-one (Named one) Wrong h = cc
shown-one Wrong (Made other) h = cc
shown-one Wrong (Named other) h = cc
