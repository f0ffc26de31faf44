use Rattle.std.proofs.Common.{◌≡◌, ℕ, ◌*◌, ◌<◌, List, length, ap, sym, subst, ◌∙◌}
use Rattle.vt_dec.specs.declared.side.Side.{Side}
use Rattle.vt_dec.specs.Decisions.{Region, Admits}
use Rattle.vt_type.specs.declared.head.Head.{Head}
use Rattle.vt_type.specs.declared.plain.Plain.{Plain}
use Rattle.vt_store.specs.Ends.{CellEnd, IsAcyclic}
use Rattle.vt_store.specs.Solutions.{Solves}
use Rattle.vt_store.specs.Stores.{Cells, cell_count, ends_at}
use Rattle.vt_store.specs.Views.{Follows, arrived, onward}
use Rattle.vt_store.specs.Writes.{IsOf}
use Rattle.vt_store.proofs.Links.{Follows-then}
use Rattle.vt_unify.specs.declared.compare.Comparison.{Comparison}
use Rattle.vt_unify.specs.declared.compare.Comparison.TheVariants as found
use Rattle.vt_unify.specs.declared.answers.Root.{Root}
use Rattle.vt_unify.specs.declared.answers.Root.TheVariants.{At}
use Rattle.vt_unify.specs.declared.answers.Reach.{Reach}
use Rattle.vt_unify.specs.declared.answers.Reach.TheVariants.{Yes}
use Rattle.vt_unify.specs.Walks.{IsRoot, IsRootOf, IsReachOf}
use Rattle.vt_unify.specs.Comparisons.{AreNeverEqual, IsMadeOf, IsComparison}
use Rattle.vt_unify.proofs.Admitted.{IsOf-in}
use Rattle.vt_unify.proofs.Solving.{Follows-same, inside_differs}

made-through : (e : ℕ → CellEnd) (cell last : ℕ) (head : Head) (kids : List ℕ) → Follows e cell last → IsMadeOf e last head kids → IsMadeOf e cell head kids
made-through e cell last head kids way made = (made.0, Follows-then e cell last made.0 way made.1, made.2)

-- what two cells are to each other is what their roots are
module _ (N : ℕ) (store : Cells) (region : Region) (left right one other : ℕ)
    (inside : left < cell_count store) (within : right < cell_count store) (sized : length region.sides ≡ 64 * N) (space : region.space ≡ store.space)
    (acyclic : (decision : List Side) → IsOf N store.space decision → IsAcyclic (cell_count store) (ends_at store decision))
    (root : IsRoot store region left one) (end : IsRoot store region right other) where
  left-same : (d : List Side) → Admits region d → (s : ℕ → Plain) → Solves (cell_count store) (ends_at store d) s → s left ≡ s one
  left-same d admits s solves = Follows-same (cell_count store) (ends_at store d) (acyclic d (IsOf-in N store.space region d sized space admits)) s solves left one inside (root.leads d admits)

  right-same : (d : List Side) → Admits region d → (s : ℕ → Plain) → Solves (cell_count store) (ends_at store d) s → s right ≡ s other
  right-same d admits s solves = Follows-same (cell_count store) (ends_at store d) (acyclic d (IsOf-in N store.space region d sized space admits)) s solves right other within (end.leads d admits)

  pub one_root : one ≡ other → (d : List Side) → Admits region d → (s : ℕ → Plain) → Solves (cell_count store) (ends_at store d) s → s left ≡ s right
  one_root same d admits s solves = left-same d admits s solves ∙ ap s same ∙ sym (right-same d admits s solves)

  pub through_roots : (found : Comparison) → IsComparison N store region one other found → IsComparison N store region left right found
  through_roots (found.Split dim) h = h
  through_roots found.Equal h = λ d admits s solves. left-same d admits s solves ∙ h d admits s solves ∙ sym (right-same d admits s solves)
  through_roots found.Differ h = λ d admits s solves same. h d admits s solves (sym (left-same d admits s solves) ∙ same ∙ right-same d admits s solves)
  through_roots (found.Open cell to) h = (
    h.0,
    h.1,
    λ d admits. (
      (h.2 d admits).0,
      λ s solves. (
        (λ same. ((h.2 d admits).1 s solves).0 (sym (left-same d admits s solves) ∙ same ∙ right-same d admits s solves)),
        (λ same. left-same d admits s solves ∙ ((h.2 d admits).1 s solves).1 same ∙ sym (right-same d admits s solves)),
      ),
    ),
  )
  through_roots (found.Parts lefts rights) h = λ d admits.
      let made = h d admits in
      (made.0, made-through (ends_at store d) left one made.0 lefts.now (root.leads d admits) made.1, made-through (ends_at store d) right other made.0 rights.now (end.leads d admits) made.2)

  pub root-itself : IsRoot store region one one
  root-itself = record { within = root.within; leads = λ d admits. arrived one; one_end = root.one_end; no_link = root.no_link }

  pub end-itself : IsRoot store region other other
  end-itself = record { within = end.within; leads = λ d admits. arrived other; one_end = end.one_end; no_link = end.no_link }

pub IsRootOf-at : (N : ℕ) (store : Cells) (region : Region) (cell last : ℕ) (found : Root) → found ≡ At last → IsRootOf N store region cell found → IsRoot store region cell last
IsRootOf-at N store region cell last found is h = subst (IsRootOf N store region cell) is h

-- a cell that contains an open one is never equal to it
pub contained_differs : (N : ℕ) (store : Cells) (region : Region) (outer inner : ℕ) (found : Reach) → length region.sides ≡ 64 * N → region.space ≡ store.space
    → ((decision : List Side) → IsOf N store.space decision → IsAcyclic (cell_count store) (ends_at store decision))
    → found ≡ Yes → IsReachOf N store region outer inner found → IsRoot store region outer outer → (outer ≡ inner → ⊥)
    → (d : List Side) → Admits region d → AreNeverEqual (cell_count store) (ends_at store d) outer inner
contained_differs N store region outer inner found sized space acyclic is h root differ d admits s solves =
    inside_differs (cell_count store) (ends_at store d) (acyclic d (IsOf-in N store.space region d sized space admits)) s solves outer inner root.within (root.no_link d admits)
    (subst (IsReachOf N store region outer inner) is h d admits) differ
