use Rattle.std.specs.Prelude.{◌≡◌, ℕ, ◌<◌, List, [], ◌∷◌, ◌++◌, length}
use Rattle.std.specs.List.{All}
use Rattle.vt_dec.specs.declared.side.Side.{Side}
use Rattle.vt_type.specs.Constants.{Constant}
use Rattle.vt_scheme.specs.declared.scheme.Scheme.{Scheme}
use Rattle.vt_scheme.specs.Schemes.{Allows, AreCells}
use Rattle.vt_store.specs.Stores.{Cells, cell_count}
use Rattle.vt_infer.specs.Places.{Place, At, Bound, Looped}
use Rattle.vt_infer.specs.Steps.{Solutions, IsPoly}
use Rattle.vt_infer.specs.declared.environment.Entry.{Entry}
use Rattle.vt_infer.specs.declared.environment.Entry.TheVariants.{Mono, Poly}

-- What an environment keeps, at no decision in particular: its cells are cells of the store, and its schemes
-- have the store's space, with a cell of the store for each of their monos.
abbrev pub IsHeldEntry : {N : ℕ} → Cells → Entry N → Type 0
IsHeldEntry store (Mono cell) = cell < cell_count store
IsHeldEntry store (Poly scheme originals) =
    (scheme.cells.space ≡ store.space) × AreCells scheme × (length originals ≡ length scheme.monos) × All (λ cell. cell < cell_count store) originals

abbrev pub IsHeld : {N : ℕ} → Cells → List (Entry N) → Type 0
IsHeld store [] = Unit {0}
IsHeld store (entry ∷ entries) = IsHeldEntry store entry × IsHeld store entries

-- the cells of the names that `fun` binds, and of those whose `let rec` is being looked at, the newest first
abbrev pub mono_cells : {N : ℕ} → List (Entry N) → List ℕ
mono_cells [] = []
mono_cells (Mono cell ∷ entries) = cell ∷ mono_cells entries
mono_cells (Poly scheme originals ∷ entries) = mono_cells entries

-- the schemes of the other names, in the order in which these were bound
abbrev pub schemes_of : {N : ℕ} → List (Entry N) → List (Scheme N)
schemes_of [] = []
schemes_of (Mono cell ∷ entries) = schemes_of entries
schemes_of (Poly scheme originals ∷ entries) = schemes_of entries ++ scheme ∷ []

-- what an entry says of a name, at one decision and over a set of solutions, is what its place says
abbrev pub IsMeant : {N : ℕ} → List Constant → ℕ → Solutions → List Side → Entry N → Place → List Place → Type 0
IsMeant K n A decision (Mono cell) (At own) places = (cell ≡ own) × (cell < n)
IsMeant K n A decision (Mono cell) (Bound bound) places = ⊥
IsMeant K n A decision (Mono cell) (Looped bound) places = ⊥
IsMeant K n A decision (Poly scheme originals) (At own) places = ⊥
IsMeant K n A decision (Poly scheme originals) (Bound bound) places = IsPoly K n A (Allows scheme decision) originals (Bound bound) places
IsMeant K n A decision (Poly scheme originals) (Looped bound) places = IsPoly K n A (Allows scheme decision) originals (Looped bound) places

abbrev pub AreMeant : {N : ℕ} → List Constant → ℕ → Solutions → List Side → List (Entry N) → List Place → Type 0
AreMeant K n A decision [] [] = Unit {0}
AreMeant K n A decision (entry ∷ entries) (place ∷ places) = IsMeant K n A decision entry place places × AreMeant K n A decision entries places
AreMeant K n A decision [] (place ∷ places) = ⊥
AreMeant K n A decision (entry ∷ entries) [] = ⊥
