use Rattle.std.specs.Prelude.{◌≡◌, ◌⊎◌, ℕ, ◌<◌, ◌≤◌, List, length, slice_get, Some}
use Rattle.std.specs.List.{All, Contains}
use Rattle.std.specs.BTreeMap.{BTreeMap, get, Updates}
use Rattle.std.specs.Option.{unwrap_or}
use Rattle.std.specs.Ordering.{nat_cmp}
use Rattle.vt_dec.specs.declared.side.Side.{Side}
use Rattle.vt_dec.specs.Decisions.{Admits}
use Rattle.vt_syntax.specs.declared.leaf.Leaf.{Leaf}
use Rattle.vt_type.specs.declared.plain.Plain.{Plain}
use Rattle.vt_store.specs.Stores.{Cells, cell_count}
use Rattle.vt_store.specs.Writes.{IsOf}
use Rattle.vt_infer.specs.declared.holes.MetHole.{MetHole}
use Rattle.vt_infer.specs.Inferring.{solutions_at}
use Rattle.vt_infer.specs.Steps.{Keeps}

-- A cell for each leaf, from the holes that were met.

-- There are more cells, and each decision keeps its solutions on those that were there.
pub record GrowsTo (N : ℕ) (old new : Cells) : Type 0 where
  pub space : new.space ≡ old.space
  pub more : cell_count old ≤ cell_count new
  pub keeps : (decision : List Side) → IsOf N old.space decision → Keeps (cell_count old) (cell_count new) (solutions_at old decision) (solutions_at new decision)

-- A cell that has the type of one cell where a condition holds of the decision, and that of another where it does not.
pub record IsEither (N : ℕ) (store : Cells) (holds : List Side → Type 0) (one other cell : ℕ) : Type 0 where
  pub is_cell : cell < cell_count store
  pub either : (decision : List Side) → IsOf N store.space decision
      → (holds decision × ((s : ℕ → Plain) → solutions_at store decision s → s cell ≡ s one))
      ⊎ ((holds decision → ⊥) × ((s : ℕ → Plain) → solutions_at store decision s → s cell ≡ s other))

-- Such a cell is made.
pub record IsMade (N : ℕ) (holds : List Side → Type 0) (one other cell : ℕ) (old new : Cells) : Type 0 where
  pub grows : GrowsTo N old new
  pub made : IsEither N new holds one other cell

-- the cell of a number by a table, and another one where the table has none
abbrev pub cell_in : BTreeMap ℕ ℕ → ℕ → ℕ → ℕ
cell_in known main mark = unwrap_or (get nat_cmp known mark) main

-- At a decision a cell has the type of the cell of some hole of this number that was met there.
pub record IsOfHole {N : ℕ} (store : Cells) (met : List (MetHole N)) (decision : List Side) (mark cell : ℕ) : Type 0 where
  pub hole : MetHole N
  pub is_met : Contains met hole
  pub number : hole.node ≡ mark
  pub there : Admits hole.within decision
  pub same : (s : ℕ → Plain) → solutions_at store decision s → s cell ≡ s hole.cell

-- Each number of a hole that was met at a decision has a cell of such a hole there.
pub record ArePlaced {N : ℕ} (store : Cells) (met : List (MetHole N)) (cell_of : ℕ → ℕ) : Type 0 where
  pub cells : (mark : ℕ) → cell_of mark < cell_count store
  pub holes : (decision : List Side) → IsOf N store.space decision → (hole : MetHole N) → Contains met hole → Admits hole.within decision
      → IsOfHole store met decision hole.node (cell_of hole.node)

-- One more hole is placed: its number has a cell that is its own where it was met, and the one from before elsewhere.
pub record IsPlaced {N : ℕ} (old new : Cells) (hole : MetHole N) (before after : BTreeMap ℕ ℕ) (main : ℕ) : Type 0 where
  pub cell : ℕ
  pub made : IsMade N (Admits hole.within) hole.cell (cell_in before main hole.node) cell old new
  pub placed : Updates nat_cmp before after hole.node (Some cell)

-- A cell for each leaf.
pub record HaveLeafCells (N : ℕ) (old new : Cells) (met : List (MetHole N)) (leaves : List Leaf) (cells : List ℕ) : Type 0 where
  pub grows : GrowsTo N old new
  pub count : length cells ≡ length leaves
  pub are : All (λ cell. cell < cell_count new) cells
  pub placed : (place cell : ℕ) (leaf : Leaf) (decision : List Side) (hole : MetHole N)
      → slice_get leaves place ≡ Some leaf → slice_get cells place ≡ Some cell → IsOf N new.space decision
      → Contains met hole → hole.node ≡ leaf.node → Admits hole.within decision
      → IsOfHole new met decision leaf.node cell
