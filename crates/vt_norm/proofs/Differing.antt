use Rattle.std.proofs.Common.{◌≡◌, ◌≢◌, ℕ, inl, inr, Bool, true, false, ◌||◌, Some, refl, sym, ◌∙◌}
use Rattle.std.proofs.lemmas.Bool.{not-true, not_from_false, or_cases, or_left, or_right, both_ways, cases_Bool}
use Rattle.vt_dec.specs.declared.side.Side.{Side}
use Rattle.vt_dec.specs.declared.side.Side.TheVariants.{Left, Right}
use Rattle.vt_type.specs.Variational.{by_side}
use Rattle.vt_norm.specs.declared.root.Top.{Top}
use Rattle.vt_norm.specs.declared.diagram.Diagram.{Diagram, Leaf}
use Rattle.vt_norm.specs.Diagrams.{node, at, AsksOnce, taking, same_top, has_other, differ}
use Rattle.vt_norm.proofs.Tops.{same_top-true, same_top-false, differing_tops}
use Rattle.vt_norm.proofs.Taking.{with, with-here, at-taking, asks-taking, once-taking, at-with, at-with-left, at-with-right}

-- Diagrams compare as different exactly where they come to different roots somewhere.

-- where a root is another than this one
abbrev pub Elsewhere : Top → Diagram → Type 0
Elsewhere top tree = (sides : ℕ → Side) × (top ≢ at sides tree)

-- where two diagrams come to different roots
abbrev pub Apart : Diagram → Diagram → Type 0
Apart one other = (sides : ℕ → Side) × (at sides one ≢ at sides other)

has_other-true : (top : Top) (tree : Diagram) → AsksOnce tree → has_other top tree ≡ true → Elsewhere top tree
has_other-true top (Leaf other) once h = (λ _. Left, same_top-false top other (not-true _ h))
has_other-true top (node dim left right) once h =
    elim (or_cases _ _ h) [
      | inl l ↦ (let w = has_other-true top left once.2 l in (with w.0 dim Left, λ e. w.1 (e ∙ at-with-left w.0 dim left right once.0)))
      | inr r ↦ (let w = has_other-true top right once.3 r in (with w.0 dim Right, λ e. w.1 (e ∙ at-with-right w.0 dim left right once.1)))
    ]

has_other-step : (top one two : Top) (first second : Bool) (side : Side) → (top ≢ one → first ≡ true) → (top ≢ two → second ≡ true) → top ≢ by_side (Some side) one two → (first || second) ≡ true
has_other-step top one two first second Left p q h = or_left _ _ (p h)
has_other-step top one two first second Right p q h = or_right _ _ (q h)

has_other-at : (top : Top) (tree : Diagram) (sides : ℕ → Side) → top ≢ at sides tree → has_other top tree ≡ true
has_other-at top (Leaf other) sides h = not_from_false _ (differing_tops top other h)
has_other-at top (node dim left right) sides h =
    has_other-step top _ _ _ _ (sides dim) (has_other-at top left sides) (has_other-at top right sides) h

-- diagrams that compare as different are apart
pub differ-true : (one other : Diagram) → AsksOnce one → AsksOnce other → differ one other ≡ true → Apart one other
differ-true (Leaf top) other first second h = has_other-true top other second h
differ-true (node dim left right) other first second h =
    elim (or_cases _ _ h) [
      | inl l ↦ (
          let w = differ-true left (taking dim Left other) first.2 (once-taking dim Left other second) l in
          (with w.0 dim Left, λ e. w.1 (sym (at-with-left w.0 dim left right first.0) ∙ e ∙ sym (at-taking _ dim Left other (with-here w.0 dim Left)) ∙ at-with w.0 dim Left (taking dim Left other) (λ a. (asks-taking dim dim Left other a).1 refl))))
      | inr r ↦ (
          let w = differ-true right (taking dim Right other) first.3 (once-taking dim Right other second) r in
          (with w.0 dim Right, λ e. w.1 (sym (at-with-right w.0 dim left right first.1) ∙ e ∙ sym (at-taking _ dim Right other (with-here w.0 dim Right)) ∙ at-with w.0 dim Right (taking dim Right other) (λ a. (asks-taking dim dim Right other a).1 refl))))
    ]

differ-step : (dim : ℕ) (left right other : Diagram) (sides : ℕ → Side) (side : Side) → sides dim ≡ side → (at sides left ≢ at sides (taking dim Left other) → differ left (taking dim Left other) ≡ true) → (at sides right ≢ at sides (taking dim Right other) → differ right (taking dim Right other) ≡ true) → by_side (Some side) (at sides left) (at sides right) ≢ at sides other → differ (node dim left right) other ≡ true
differ-step dim left right other sides Left e p q h = or_left _ _ (p (λ f. h (f ∙ at-taking sides dim Left other e)))
differ-step dim left right other sides Right e p q h = or_right _ _ (q (λ f. h (f ∙ at-taking sides dim Right other e)))

-- diagrams that are apart compare as different
pub differ-apart : (one other : Diagram) (sides : ℕ → Side) → at sides one ≢ at sides other → differ one other ≡ true
differ-apart (Leaf top) other sides h = has_other-at top other sides h
differ-apart (node dim left right) other sides h =
    differ-step dim left right other sides (sides dim) refl (differ-apart left (taking dim Left other) sides) (differ-apart right (taking dim Right other) sides) h

-- diagrams that do not compare as different come to the same root everywhere
pub differ-false : (one other : Diagram) (sides : ℕ → Side) → differ one other ≡ false → at sides one ≡ at sides other
differ-false one other sides h =
    elim (cases_Bool (same_top (at sides one) (at sides other))) [
      | inl same ↦ same_top-true _ _ same
      | inr apart ↦ absurd (both_ways _ h (differ-apart one other sides (same_top-false _ _ apart)))
    ]
