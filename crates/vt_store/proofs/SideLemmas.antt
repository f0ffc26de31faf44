use Rattle.std.proofs.Common.{◌≡◌, ◌⊎◌, ℕ, ◌+◌, ◌<◌, Bool, true, false, not, cond, nat_eq, List, [], ◌∷◌, ◌++◌, Option, Some, None, Result, Ok, Err, OnOk, length, set, slice_get, refl, ap, sym, subst, ◌∙◌, inl, inr, arith, true≢false}
use Rattle.std.specs.List.{All}
use Rattle.std.proofs.lemmas.Bool.{cases_eq, eqb-true, eq-eqb}
use Rattle.std.proofs.lemmas.List.Elements.{All-nil, All-cons, All-head, All-tail}
use Rattle.vt_dec.specs.declared.side.Side.{Side}
use Rattle.vt_dec.specs.declared.side.Side.TheVariants.{Left, Right}
use Rattle.vt_dec.specs.Decisions.{Takes}
use Rattle.vt_dec.proofs.Slices.{slice_get-set_same, slice_get-set_other}
use Rattle.vt_type.specs.Variational.{by_side}
use Rattle.vt_store.specs.Ends.{EachCell}
use Rattle.vt_store.specs.declared.diagram.Diagram.{Diagram, Open, Link, Con, Choice}
use Rattle.vt_store.specs.Diagrams.{choice, end_in, IsOrdered, HasCells}
use Rattle.vt_store.specs.Narrowing.{of_side, on_side, named_on}
use Rattle.vt_store.proofs.DiagramShapes.{diagram_here, IsOrdered-earlier}

-- A diagram on one side of a dimension.

-- ---- what a choice says there, by its dimension

module _ {A : Type 0} (own dim : ℕ) (here apart : A) where
  cond-apart : not (nat_eq own dim) ≡ true → cond (nat_eq own dim) here apart ≡ apart
  cond-apart = by (nat_eq own dim)
    where
      by : (same : Bool) → not same ≡ true → cond same here apart ≡ apart
      by true e = absurd (true≢false (sym e))
      by false e = refl

  cond-here : not (nat_eq own dim) ≡ false → cond (nat_eq own dim) here apart ≡ here
  cond-here = by (nat_eq own dim)
    where
      by : (same : Bool) → not same ≡ false → cond same here apart ≡ here
      by true e = refl
      by false e = absurd (true≢false e)

differ-not : (one other : ℕ) → (one ≡ other → ⊥) → not (nat_eq one other) ≡ true
differ-not one other differ = by (nat_eq one other) refl
  where
    by : (is : Bool) → nat_eq one other ≡ is → not is ≡ true
    by true e = absurd (differ (eqb-true one other e))
    by false e = refl

module _ (dim own : ℕ) (side : Side) (diagram left right : Diagram) (is : diagram ≡ Choice own left right) where
  pub named_on-apart : not (nat_eq own dim) ≡ true → named_on dim side diagram ≡ named_on dim side left ++ named_on dim side right
  named_on-apart e = ap (named_on dim side) (is ∙ diagram_here own left right) ∙ cond-apart own dim _ _ e

  pub named_on-here : not (nat_eq own dim) ≡ false → named_on dim side diagram ≡ of_side side (named_on dim side left) (named_on dim side right)
  named_on-here e = ap (named_on dim side) (is ∙ diagram_here own left right) ∙ cond-here own dim _ _ e

  pub on_side-apart : not (nat_eq own dim) ≡ true → on_side dim side diagram ≡ choice own (on_side dim side left) (on_side dim side right)
  on_side-apart e = ap (on_side dim side) (is ∙ diagram_here own left right) ∙ cond-apart own dim _ _ e

  pub on_side-here : not (nat_eq own dim) ≡ false → on_side dim side diagram ≡ of_side side (on_side dim side left) (on_side dim side right)
  on_side-here e = ap (on_side dim side) (is ∙ diagram_here own left right) ∙ cond-here own dim _ _ e

-- whatever the side and the dimension, one of what is there
pub at_side : {A : Type 0} (P : A → Type 0) (side : Side) (left right : A) → P left → P right → P (of_side side left right)
at_side P Left left right l r = l
at_side P Right left right l r = r

pub at_cond : {A : Type 0} (P : A → Type 0) (is : Bool) (here apart : A) → P here → P apart → P (cond is here apart)
at_cond P true here apart h a = h
at_cond P false here apart h a = a

-- what follows for what may not have been given
pub on_ok : {A E : Type 0} (result : Result A E) (P Q : Type 0) → (P → Q) → OnOk result P → OnOk result Q
on_ok (Ok value) P Q step h = step h
on_ok (Err error) P Q step h = tt

-- ---- what it means at a decision

-- the end at a decision is that of the diagram where the dimension has the side
pub end_in-on_side : (decision : List Side) (dim : ℕ) (side : Side) (diagram : Diagram) → dim < length decision → end_in decision (on_side dim side diagram) ≡ end_in (set decision dim side) diagram
end_in-on_side decision dim side Open within = refl
end_in-on_side decision dim side (Link cell) within = refl
end_in-on_side decision dim side (Con head kids) within = refl
end_in-on_side decision dim side (choice own left right) within = by (cases_eq own dim) (end_in-on_side decision dim side left within) (end_in-on_side decision dim side right within)
  where
    lefts : Diagram
    lefts = on_side dim side left

    rights : Diagram
    rights = on_side dim side right

    of : (one : Side) → end_in decision lefts ≡ end_in (set decision dim side) left → end_in decision rights ≡ end_in (set decision dim side) right
        → end_in decision (of_side one lefts rights) ≡ by_side (Some one) (end_in (set decision dim side) left) (end_in (set decision dim side) right)
    of Left l r = l
    of Right l r = r

    sides : (one : Option Side) → end_in decision lefts ≡ end_in (set decision dim side) left → end_in decision rights ≡ end_in (set decision dim side) right
        → by_side one (end_in decision lefts) (end_in decision rights) ≡ by_side one (end_in (set decision dim side) left) (end_in (set decision dim side) right)
    sides (Some Left) l r = l
    sides (Some Right) l r = r
    sides None l r = l

    by : (own ≡ dim) ⊎ (own ≡ dim → ⊥) → end_in decision lefts ≡ end_in (set decision dim side) left → end_in decision rights ≡ end_in (set decision dim side) right
        → end_in decision (cond (nat_eq own dim) (of_side side lefts rights) (choice own lefts rights)) ≡ by_side (slice_get (set decision dim side) own) (end_in (set decision dim side) left) (end_in (set decision dim side) right)
    by (inl same) l r =
        ap (end_in decision) (cond-here own dim (of_side side lefts rights) (choice own lefts rights) (ap not (eq-eqb own dim same)))
        ∙ of side l r
        ∙ ap (λ (one : Option Side). by_side one (end_in (set decision dim side) left) (end_in (set decision dim side) right)) (sym (ap (slice_get (set decision dim side)) same ∙ slice_get-set_same decision dim side within))
    by (inr differ) l r =
        ap (end_in decision) (cond-apart own dim (of_side side lefts rights) (choice own lefts rights) (differ-not own dim differ))
        ∙ ap (λ (one : Option Side). by_side one (end_in decision lefts) (end_in decision rights)) (sym (slice_get-set_other decision dim own side differ))
        ∙ sides (slice_get (set decision dim side) own) l r

All-first : (P : ℕ → Type 0) (ones others : List ℕ) → All P (ones ++ others) → All P ones
All-first P [] others h = All-nil P
All-first P (one ∷ ones) others h = All-cons P one ones (All-head P one (ones ++ others) h) (All-first P ones others (All-tail P one (ones ++ others) h))

All-second : (P : ℕ → Type 0) (ones others : List ℕ) → All P (ones ++ others) → All P others
All-second P [] others h = h
All-second P (one ∷ ones) others h = All-second P ones others (All-tail P one (ones ++ others) h)

abbrev Step : (ℕ → Type 0) → List Side → ℕ → Side → Diagram → Type 0
Step P decision dim side part = All P (named_on dim side part) → EachCell P (end_in decision part)

-- the end at a decision that takes the side names only cells that are named there
pub EachCell-named_on : (P : ℕ → Type 0) (decision : List Side) (dim : ℕ) (side : Side) (diagram : Diagram) → Takes decision dim side → All P (named_on dim side diagram) → EachCell P (end_in decision diagram)
EachCell-named_on P decision dim side Open takes h = tt
EachCell-named_on P decision dim side (Link cell) takes h = All-head P cell [] h
EachCell-named_on P decision dim side (Con head kids) takes h = h
EachCell-named_on P decision dim side (choice own left right) takes h =
    by (nat_eq own dim) refl h (EachCell-named_on P decision dim side left takes) (EachCell-named_on P decision dim side right takes)
  where
    of : (one : Side) → All P (of_side one (named_on dim side left) (named_on dim side right)) → Step P decision dim side left → Step P decision dim side right → EachCell P (by_side (Some one) (end_in decision left) (end_in decision right))
    of Left g l r = l g
    of Right g l r = r g

    sides : (one : Option Side) → All P (named_on dim side left ++ named_on dim side right) → Step P decision dim side left → Step P decision dim side right → EachCell P (by_side one (end_in decision left) (end_in decision right))
    sides (Some Left) g l r = l (All-first P (named_on dim side left) (named_on dim side right) g)
    sides (Some Right) g l r = r (All-second P (named_on dim side left) (named_on dim side right) g)
    sides None g l r = l (All-first P (named_on dim side left) (named_on dim side right) g)

    by : (is : Bool) → nat_eq own dim ≡ is → All P (cond is (of_side side (named_on dim side left) (named_on dim side right)) (named_on dim side left ++ named_on dim side right)) → Step P decision dim side left → Step P decision dim side right
        → EachCell P (by_side (slice_get decision own) (end_in decision left) (end_in decision right))
    by true e g l r =
        subst (λ (one : Option Side). EachCell P (by_side one (end_in decision left) (end_in decision right))) (sym (ap (slice_get decision) (eqb-true own dim e) ∙ takes)) (of side g l r)
    by false e g l r = sides (slice_get decision own) g l r

-- ---- it is a diagram as before

pub IsOrdered-on_side : (bound from dim : ℕ) (side : Side) (diagram : Diagram) → IsOrdered bound from diagram → IsOrdered bound from (on_side dim side diagram)
IsOrdered-on_side bound from dim side Open h = tt
IsOrdered-on_side bound from dim side (Link cell) h = tt
IsOrdered-on_side bound from dim side (Con head kids) h = tt
IsOrdered-on_side bound from dim side (choice own left right) h =
    let l = IsOrdered-on_side bound (own + 1) dim side left h.2 in
    let r = IsOrdered-on_side bound (own + 1) dim side right h.3 in
    at_cond (IsOrdered bound from) (nat_eq own dim) (of_side side (on_side dim side left) (on_side dim side right)) (choice own (on_side dim side left) (on_side dim side right))
    (at_side (IsOrdered bound from) side (on_side dim side left) (on_side dim side right)
    (IsOrdered-earlier bound (own + 1) from (on_side dim side left) (omega (arith, h.0)) l) (IsOrdered-earlier bound (own + 1) from (on_side dim side right) (omega (arith, h.0)) r))
    (h.0, h.1, l, r)

pub HasCells-on_side : (count dim : ℕ) (side : Side) (diagram : Diagram) → HasCells count diagram → HasCells count (on_side dim side diagram)
HasCells-on_side count dim side Open h = tt
HasCells-on_side count dim side (Link cell) h = h
HasCells-on_side count dim side (Con head kids) h = h
HasCells-on_side count dim side (choice own left right) h =
    let l = HasCells-on_side count dim side left h.0 in
    let r = HasCells-on_side count dim side right h.1 in
    at_cond (HasCells count) (nat_eq own dim) (of_side side (on_side dim side left) (on_side dim side right)) (choice own (on_side dim side left) (on_side dim side right))
    (at_side (HasCells count) side (on_side dim side left) (on_side dim side right) l r) (l, r)
