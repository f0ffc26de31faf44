use Rattle.std.specs.Prelude.{◌≡◌, ℕ, ◌<◌, ◌≤◌, List, Some}
use Rattle.std.specs.Map.{lookup}
use Rattle.std.specs.Str.{bytes_eq}
use Rattle.vt_dec.specs.declared.side.Side.{Side}
use Rattle.vt_type.specs.declared.plain.Plain.{Plain}
use Rattle.vt_type.specs.Plain.{IsWellFormed}
use Rattle.vt_store.specs.Stores.{Cells, cell_count}
use Rattle.vt_store.specs.Writes.{IsOf}
use Rattle.vt_infer.specs.Steps.{Agree}
use Rattle.vt_infer.specs.Inferring.{solutions_at}

-- A type that is built from cells, with one cell for each of its variables.

-- the cells of variables that have been met
abbrev pub Table : Type 0
Table = List (List ℕ × ℕ)

abbrev pub IsMet : Table → List ℕ → ℕ → Type 0
IsMet table name cell = lookup (bytes_eq name) table ≡ Some cell

-- their cells are there
abbrev pub AreThere : ℕ → Table → Type 0
AreThere count table = (name : List ℕ) (cell : ℕ) → IsMet table name cell → cell < count

-- each variable that was met has the type of its cell
abbrev pub Match : Table → (ℕ → Plain) → (List ℕ → Plain) → Type 0
Match table s images = (name : List ℕ) (cell : ℕ) → IsMet table name cell → images name ≡ s cell

-- What the new cells read as, in each solution, is what the types of the variables make of a type; and there is a solution for all
-- types of the variables.
pub record IsBuilt (N : ℕ) {X : Type 0} (reads : (ℕ → Plain) → X) (means : (List ℕ → Plain) → X) (before after : Table) (old new : Cells) : Type 0 where
  pub space : new.space ≡ old.space
  pub grows : cell_count old ≤ cell_count new
  pub more : (name : List ℕ) (cell : ℕ) → IsMet before name cell → IsMet after name cell
  pub there : AreThere (cell_count new) after
  pub given : (decision : List Side) → IsOf N old.space decision → (s : ℕ → Plain) → solutions_at new decision s
      → solutions_at old decision s × ((images : List ℕ → Plain) → Match after s images → reads s ≡ means images)
  pub taken : (decision : List Side) → IsOf N old.space decision → (s : ℕ → Plain) → solutions_at old decision s
      → (images : List ℕ → Plain) → ((name : List ℕ) → IsWellFormed (images name)) → Match before s images
      → (other : ℕ → Plain) × solutions_at new decision other × Agree (cell_count old) s other × Match after other images × (reads other ≡ means images)
