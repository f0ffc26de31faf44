use Rattle.std.proofs.Common.{◌≡◌, ◌≢◌, ℕ, ◌≤◌, min, cond, ◌⊎◌, inl, inr, Bool, true, false, Option, Some, None, refl, sym, ap, subst, ◌∙◌, arith}
use Rattle.std.proofs.lemmas.Bool.{cases_eq}
use Rattle.vt_dec.specs.declared.side.Side.{Side}
use Rattle.vt_dec.specs.declared.side.Side.TheVariants.{Left, Right}
use Rattle.vt_type.specs.Variational.{by_side}
use Rattle.vt_norm.specs.declared.root.Top.{Top}
use Rattle.vt_norm.specs.declared.diagram.Diagram.{Diagram, Leaf}
use Rattle.vt_norm.specs.Diagrams.{node, at, Asks, AsksOnce, lesser, least, first}
use Rattle.vt_norm.proofs.Taking.{with, with-here, with-there, at-agree, at-with-left, at-with-right, at-with-with}
use Rattle.vt_norm.proofs.Differing.{Apart, differ-true, differ-apart, differ-false}

-- The least dimension of a diagram is the least one on which its root depends.

lesser-none : (one other : Option ℕ) → lesser one other ≡ None → (one ≡ None) × (other ≡ None)
lesser-none None other h = (refl, h)
lesser-none (Some one) None h = cc
lesser-none (Some one) (Some other) h = cc

lesser-some : (one other : Option ℕ) (dim : ℕ) → lesser one other ≡ Some dim → (one ≡ Some dim) ⊎ (other ≡ Some dim)
lesser-some None other dim h = inr h
lesser-some (Some one) None dim h = inl h
lesser-some (Some one) (Some other) dim h =
    let e : min one other ≡ dim = cc in
    elim (cases_eq one dim) [ inl f ↦ inl (ap Some f) | inr apart ↦ inr (ap Some (omega arith)) ]

-- the dimension is there, and no greater than this one
abbrev pub IsUpTo : Option ℕ → ℕ → Type 0
IsUpTo None bound = ⊥
IsUpTo (Some dim) bound = dim ≤ bound

lesser-one : (one other : Option ℕ) (bound : ℕ) → IsUpTo one bound → IsUpTo (lesser one other) bound
lesser-one None other bound h = absurd h
lesser-one (Some one) None bound h = h
lesser-one (Some one) (Some other) bound h = omega arith

lesser-other : (one other : Option ℕ) (bound : ℕ) → IsUpTo other bound → IsUpTo (lesser one other) bound
lesser-other None other bound h = h
lesser-other (Some one) None bound h = absurd h
lesser-other (Some one) (Some other) bound h = omega arith

-- the dimension of a node stands where its sides differ
abbrev own : Bool → ℕ → Option ℕ
own test dim = cond test (Some dim) None

own-none : (test : Bool) (dim : ℕ) → own test dim ≡ None → test ≡ false
own-none true dim h = cc
own-none false dim h = refl

own-some : (test : Bool) (dim other : ℕ) → own test dim ≡ Some other → (test ≡ true) × (dim ≡ other)
own-some true dim other h = (refl, cc)
own-some false dim other h = cc

by_side-both : {A : Type 0} (side : Side) (left right top : A) → left ≡ top → right ≡ top → by_side (Some side) left right ≡ top
by_side-both Left left right top e f = e
by_side-both Right left right top e f = f

-- a diagram with no least dimension comes to one root
pub least-none : (tree : Diagram) (sides : ℕ → Side) → least tree ≡ None → at sides tree ≡ first tree
least-none (Leaf top) sides h = refl
least-none (node dim left right) sides h =
    let parts = lesser-none _ _ h in
    let below = lesser-none (least left) (least right) parts.1 in
    let l = least-none left sides below.0 in
    by_side-both (sides dim) _ _ _ l (sym (differ-false left right sides (own-none _ dim parts.0)) ∙ l)

-- the root depends on the dimension
abbrev pub Depends : ℕ → Diagram → Type 0
Depends dim tree = Asks dim tree × ((sides : ℕ → Side) × (at (with sides dim Left) tree ≢ at (with sides dim Right) tree))

depends-left : (dim other : ℕ) (left right : Diagram) → (Asks other left → ⊥) → Depends dim left → Depends dim (node other left right)
depends-left dim other left right free (asked, (sides, apart)) =
    let ne : other ≢ dim = λ e. free (let P : ℕ → Type 0 = λ n. Asks n left in subst P (sym e) asked) in
    let below : (side : Side) → at (with (with sides other Left) dim side) (node other left right) ≡ at (with sides dim side) left =
    λ side. rw (with-there (with sides other Left) dim side other ne, with-here sides other Left) (at-with-with sides other dim Left side left free) in
    (inr (inl asked), (with sides other Left, λ e. apart (sym (below Left) ∙ e ∙ below Right)))

depends-right : (dim other : ℕ) (left right : Diagram) → (Asks other right → ⊥) → Depends dim right → Depends dim (node other left right)
depends-right dim other left right free (asked, (sides, apart)) =
    let ne : other ≢ dim = λ e. free (let P : ℕ → Type 0 = λ n. Asks n right in subst P (sym e) asked) in
    let below : (side : Side) → at (with (with sides other Right) dim side) (node other left right) ≡ at (with sides dim side) right =
    λ side. rw (with-there (with sides other Right) dim side other ne, with-here sides other Right) (at-with-with sides other dim Right side right free) in
    (inr (inr asked), (with sides other Right, λ e. apart (sym (below Left) ∙ e ∙ below Right)))

depends-own : (dim : ℕ) (left right : Diagram) → AsksOnce (node dim left right) → Apart left right → Depends dim (node dim left right)
depends-own dim left right once (sides, apart) =
    (inl refl, (sides, λ e. apart (sym (at-with-left sides dim left right once.0) ∙ e ∙ at-with-right sides dim left right once.1)))

-- the root depends on the least dimension
pub least-some : (tree : Diagram) (dim : ℕ) → AsksOnce tree → least tree ≡ Some dim → Depends dim tree
least-some (Leaf top) dim once h = cc
least-some (node other left right) dim once h =
    elim (lesser-some _ _ dim h) [
      | inl o ↦ (
          let found = own-some _ other dim o in
          let P : ℕ → Type 0 = λ n. Depends n (node other left right) in
          subst P found.1 (depends-own other left right once (differ-true left right once.2 once.3 found.0)))
      | inr below ↦ elim (lesser-some (least left) (least right) dim below) [
        | inl l ↦ depends-left dim other left right once.0 (least-some left dim once.2 l)
        | inr r ↦ depends-right dim other left right once.1 (least-some right dim once.3 r)
      ]
    ]

own-upto : (test : Bool) (dim : ℕ) → test ≡ true → IsUpTo (own test dim) dim
own-upto true dim h = omega arith
own-upto false dim h = cc

least-below : (left right : Diagram) (dim bound : ℕ) (one other side : Side) (a b c d : Top) → one ≡ side → other ≡ side → by_side (Some one) a b ≢ by_side (Some other) c d → (a ≢ c → IsUpTo (least left) bound) → (b ≢ d → IsUpTo (least right) bound) → IsUpTo (lesser (least left) (least right)) bound
least-below left right dim bound one other Left a b c d e f h p q = lesser-one _ _ bound (p (rw (e, f) at h))
least-below left right dim bound one other Right a b c d e f h p q = lesser-other (least left) _ bound (q (rw (e, f) at h))

-- a dimension on which the root depends is no less than the least
pub least-least : (tree : Diagram) (dim : ℕ) (one other : ℕ → Side) → AsksOnce tree → one dim ≡ Left → other dim ≡ Right → ((asked : ℕ) → asked ≢ dim → one asked ≡ other asked) → at one tree ≢ at other tree → IsUpTo (least tree) dim
least-least (Leaf top) dim one other once l r same h = h refl
least-least (node asked left right) dim one other once l r same h =
    elim (cases_eq asked dim) [
      | inl e ↦ (
          let apart : at one left ≢ at one right =
          λ f. h (rw (e, l, r) (f ∙ at-agree one other right (λ a p. same a (λ g. once.1 (let P : ℕ → Type 0 = λ n. Asks n right in subst P (g ∙ sym e) p))))) in
          let P : ℕ → Type 0 = λ n. IsUpTo (least (node asked left right)) n in
          subst P e (lesser-one _ _ asked (own-upto _ asked (differ-apart left right one apart))))
      | inr ne ↦ lesser-other _ _ dim
          (least-below left right asked dim (one asked) (other asked) (other asked) _ _ _ _ (same asked ne) refl h (least-least left dim one other once.2 l r same) (least-least right dim one other once.3 l r same))
    ]
