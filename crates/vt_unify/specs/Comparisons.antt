use Rattle.std.specs.Prelude.{◌≡◌, ◌↔◌, ℕ, ◌<◌, List}
use Rattle.vt_dec.specs.declared.side.Side.{Side}
use Rattle.vt_dec.specs.Decisions.{Region, Admits}
use Rattle.vt_type.specs.declared.head.Head.{Head}
use Rattle.vt_type.specs.declared.plain.Plain.{Plain}
use Rattle.vt_store.specs.Ends.{CellEnd, Free, Made, Reaches}
use Rattle.vt_store.specs.Solutions.{Solves}
use Rattle.vt_store.specs.Stores.{Cells, cell_count, ends_at}
use Rattle.vt_store.specs.Views.{Follows}
use Rattle.vt_unify.specs.declared.compare.Comparison.{Comparison}
use Rattle.vt_unify.specs.declared.compare.Comparison.TheVariants as found
use Rattle.vt_unify.specs.Walks.{CanSplit}

-- What follows speaks of one decision.

-- in every solution the two cells are equal
abbrev pub AreAlwaysEqual : ℕ → (ℕ → CellEnd) → ℕ → ℕ → Type 0
AreAlwaysEqual n e left right = (s : ℕ → Plain) → Solves n e s → s left ≡ s right

-- in no solution the two cells are equal
abbrev pub AreNeverEqual : ℕ → (ℕ → CellEnd) → ℕ → ℕ → Type 0
AreNeverEqual n e left right = (s : ℕ → Plain) → Solves n e s → s left ≡ s right → ⊥

-- one cell can be bound to another one
pub record CanBind (e : ℕ → CellEnd) (cell to : ℕ) : Type 0 where
  pub free : e cell ≡ Free
  pub apart : Reaches e to cell → ⊥

-- two cells are equal where two others are
abbrev pub AreEqualWhere : ℕ → (ℕ → CellEnd) → ℕ → ℕ → ℕ → ℕ → Type 0
AreEqualWhere n e left right cell to = (s : ℕ → Plain) → Solves n e s → (s left ≡ s right) ↔ (s cell ≡ s to)

-- links lead to a head over these cells
abbrev pub IsMadeOf : (ℕ → CellEnd) → ℕ → Head → List ℕ → Type 0
IsMadeOf e cell head kids = (last : ℕ) × Follows e cell last × (e last ≡ Made head kids)

-- links lead to one head, over these cells and over those
abbrev pub IsSameMade : (ℕ → CellEnd) → ℕ → ℕ → List ℕ → List ℕ → Type 0
IsSameMade e left right lefts rights = (head : Head) × IsMadeOf e left head lefts × IsMadeOf e right head rights

-- a cell has this end at each decision of a context
abbrev pub IsEverywhere : Cells → Region → ℕ → CellEnd → Type 0
IsEverywhere store region cell end = (decision : List Side) → Admits region decision → ends_at store decision cell ≡ end

-- what two cells of a store are to each other at the decisions of a context
abbrev pub IsComparison : ℕ → Cells → Region → ℕ → ℕ → Comparison → Type 0
IsComparison N store region left right (found.Split dim) = CanSplit N region dim
IsComparison N store region left right found.Equal = (decision : List Side) → Admits region decision → AreAlwaysEqual (cell_count store) (ends_at store decision) left right
IsComparison N store region left right found.Differ = (decision : List Side) → Admits region decision → AreNeverEqual (cell_count store) (ends_at store decision) left right
IsComparison N store region left right (found.Open cell to) =
    (cell < cell_count store) × (to < cell_count store)
    × ((decision : List Side) → Admits region decision → CanBind (ends_at store decision) cell to × AreEqualWhere (cell_count store) (ends_at store decision) left right cell to)
IsComparison N store region left right (found.Parts lefts rights) =
    (decision : List Side) → Admits region decision → IsSameMade (ends_at store decision) left right lefts.now rights.now
