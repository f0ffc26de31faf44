use Rattle.std.proofs.Common.{◌≡◌, ◌≢◌, ℕ, ◌==◌, cond, ◌⊎◌, inl, inr, Bool, true, false, Some, refl, sym, ap, subst, ◌∙◌}
use Rattle.std.proofs.lemmas.Bool.{eqb-true, eqb-false, eq-eqb, ne_eqb, cond-true, cond-false}
use Rattle.vt_dec.specs.declared.side.Side.{Side}
use Rattle.vt_dec.specs.declared.side.Side.TheVariants.{Left, Right}
use Rattle.vt_type.specs.Variational.{by_side}
use Rattle.vt_norm.specs.declared.diagram.Diagram.{Diagram, Leaf}
use Rattle.vt_norm.specs.Diagrams.{node, at, Asks, AsksOnce, taking}

-- A diagram where a dimension takes a side.

-- the sides with one of them changed
abbrev pub with : (ℕ → Side) → ℕ → Side → ℕ → Side
with sides dim side other = cond (other == dim) side (sides other)

pub with-here : (sides : ℕ → Side) (dim : ℕ) (side : Side) → with sides dim side dim ≡ side
with-here sides dim side = cond-true (dim == dim) _ _ (eq-eqb dim dim refl)

pub with-there : (sides : ℕ → Side) (dim : ℕ) (side : Side) (other : ℕ) → other ≢ dim → with sides dim side other ≡ sides other
with-there sides dim side other h = cond-false (other == dim) _ _ (ne_eqb other dim h)

-- what is asked of one side is asked of the whole
asks-side : (dim : ℕ) (side : Side) (left right : Diagram) → Asks dim (by_side (Some side) left right) → Asks dim left ⊎ Asks dim right
asks-side dim Left left right h = inl h
asks-side dim Right left right h = inr h

at-side : (sides : ℕ → Side) (side : Side) (left right : Diagram) → at sides (by_side (Some side) left right) ≡ by_side (Some side) (at sides left) (at sides right)
at-side sides Left left right = refl
at-side sides Right left right = refl

at-taking-step : (sides : ℕ → Side) (dim other : ℕ) (side : Side) (left right one two : Diagram) (test : Bool) → (other == dim) ≡ test → sides dim ≡ side → at sides one ≡ at sides left → at sides two ≡ at sides right → at sides (cond test (by_side (Some side) one two) (node other one two)) ≡ at sides (node other left right)
at-taking-step sides dim other side left right one two true t e p q = rw (at-side sides side one two, p, q, eqb-true _ _ t, e) refl
at-taking-step sides dim other side left right one two false t e p q = rw (p, q) refl

-- taking a side changes nothing where the decision takes it
pub at-taking : (sides : ℕ → Side) (dim : ℕ) (side : Side) (tree : Diagram) → sides dim ≡ side → at sides (taking dim side tree) ≡ at sides tree
at-taking sides dim side (Leaf top) e = refl
at-taking sides dim side (node other left right) e =
    at-taking-step sides dim other side left right _ _ (other == dim) refl e (at-taking sides dim side left e) (at-taking sides dim side right e)

asks-taking-step : (asked dim other : ℕ) (side : Side) (left right one two : Diagram) (test : Bool) → (other == dim) ≡ test → (Asks asked one → Asks asked left × (asked ≢ dim)) → (Asks asked two → Asks asked right × (asked ≢ dim)) → Asks asked (cond test (by_side (Some side) one two) (node other one two)) → Asks asked (node other left right) × (asked ≢ dim)
asks-taking-step asked dim other side left right one two true t p q h =
    elim (asks-side asked side one two h) [ inl a ↦ (inr (inl (p a).0), (p a).1) | inr b ↦ (inr (inr (q b).0), (q b).1) ]
asks-taking-step asked dim other side left right one two false t p q (inl e) = (inl e, λ f. eqb-false _ _ t (sym e ∙ f))
asks-taking-step asked dim other side left right one two false t p q (inr (inl a)) = (inr (inl (p a).0), (p a).1)
asks-taking-step asked dim other side left right one two false t p q (inr (inr b)) = (inr (inr (q b).0), (q b).1)

-- what is asked afterwards was asked before, and is not the dimension
pub asks-taking : (asked dim : ℕ) (side : Side) (tree : Diagram) → Asks asked (taking dim side tree) → Asks asked tree × (asked ≢ dim)
asks-taking asked dim side (Leaf top) h = absurd h
asks-taking asked dim side (node other left right) h =
    asks-taking-step asked dim other side left right _ _ (other == dim) refl (asks-taking asked dim side left) (asks-taking asked dim side right) h

once-taking-step : (dim other : ℕ) (side : Side) (one two : Diagram) (test : Bool) → AsksOnce one → AsksOnce two → (Asks other one → ⊥) → (Asks other two → ⊥) → AsksOnce (cond test (by_side (Some side) one two) (node other one two))
once-taking-step dim other Left one two true p q a b = p
once-taking-step dim other Right one two true p q a b = q
once-taking-step dim other side one two false p q a b = (a, b, p, q)

pub once-taking : (dim : ℕ) (side : Side) (tree : Diagram) → AsksOnce tree → AsksOnce (taking dim side tree)
once-taking dim side (Leaf top) h = tt
once-taking dim side (node other left right) h =
    once-taking-step dim other side _ _ (other == dim) (once-taking dim side left h.2) (once-taking dim side right h.3) (λ a. h.0 (asks-taking other dim side left a).0) (λ b. h.1 (asks-taking other dim side right b).0)

-- only the dimensions that are asked matter
pub at-agree : (one other : ℕ → Side) (tree : Diagram) → ((asked : ℕ) → Asks asked tree → one asked ≡ other asked) → at one tree ≡ at other tree
at-agree one other (Leaf top) h = refl
at-agree one other (node dim left right) h =
    rw (h dim (inl refl), at-agree one other left (λ a p. h a (inr (inl p))), at-agree one other right (λ a p. h a (inr (inr p)))) refl

-- a dimension that is not asked may be changed
pub at-with : (sides : ℕ → Side) (dim : ℕ) (side : Side) (tree : Diagram) → (Asks dim tree → ⊥) → at (with sides dim side) tree ≡ at sides tree
at-with sides dim side tree h = at-agree _ _ tree (λ asked a. with-there sides dim side asked (λ e. h (let P : ℕ → Type 0 = λ n. Asks n tree in subst P e a)))

-- the alternative on the left, where the dimension is changed to it
pub at-with-left : (sides : ℕ → Side) (dim : ℕ) (left right : Diagram) → (Asks dim left → ⊥) → at (with sides dim Left) (node dim left right) ≡ at sides left
at-with-left sides dim left right h = rw (with-here sides dim Left) (at-with sides dim Left left h)

-- the alternative on the right, where the dimension is changed to it
pub at-with-right : (sides : ℕ → Side) (dim : ℕ) (left right : Diagram) → (Asks dim right → ⊥) → at (with sides dim Right) (node dim left right) ≡ at sides right
at-with-right sides dim left right h = rw (with-here sides dim Right) (at-with sides dim Right right h)

-- a change of a dimension that is not asked, below another change
pub at-with-with : (sides : ℕ → Side) (dim other : ℕ) (side two : Side) (tree : Diagram) → (Asks dim tree → ⊥) → at (with (with sides dim side) other two) tree ≡ at (with sides other two) tree
at-with-with sides dim other side two tree h =
    at-agree _ _ tree
    (λ asked a. ap (λ x. cond (asked == other) two x) (with-there sides dim side asked (λ e. h (let P : ℕ → Type 0 = λ n. Asks n tree in subst P e a))))
