use Rattle.std.specs.Prelude.{◌≡◌, ℕ, ◌+◌, ◌<◌, List, Option, Some, None, length, map, slice_get}
use Rattle.std.specs.List.{All}
use Rattle.vt_dec.specs.declared.side.Side.{Side}
use Rattle.vt_dec.specs.declared.side.Space.{Space}
use Rattle.vt_dec.specs.Decisions.{Region, Admits}
use Rattle.vt_type.specs.Variational.{by_side}
use Rattle.vt_store.specs.Branches.{Ways, IsLeastBranch}
use Rattle.vt_store.specs.Ends.{CellEnd, Free, Same, Made, IsAcyclic}
use Rattle.vt_store.specs.Writes.{IsOf}
use Rattle.vt_store.specs.declared.diagram.Diagram.{Diagram}
use Rattle.vt_store.specs.Diagrams.{end_in, Passes, IsDiagram}

-- A store, as contracts see it. They speak of `ends_at`, of `cell_count`, of its space and of what
-- is spare, and not of its diagrams.
pub record Cells : Type 0 where
  pub cells : List Diagram
  pub space : Space
  -- for how many more cells there is room
  pub spare : ℕ

abbrev pub cell_count : Cells → ℕ
cell_count store = length store.cells

-- the end of a cell that may not be there
abbrev pub end_of : List Side → Option Diagram → CellEnd
end_of decision None = Free
end_of decision (Some diagram) = end_in decision diagram

-- the end of each cell at a decision
abbrev pub ends_at : Cells → List Side → ℕ → CellEnd
ends_at store decision cell = end_of decision (slice_get store.cells cell)

-- What holds of each store: no cell contains itself, at whatever decision of the space, and each
-- diagram is as it should be.
pub record IsStore (N : ℕ) (store : Cells) : Type 0 where
  pub acyclic : (decision : List Side) → IsOf N store.space decision → IsAcyclic (cell_count store) (ends_at store decision)
  pub diagrams : All (IsDiagram N (cell_count store)) store.cells

-- the cells, their ends and the space stay
pub record IsUnchanged (old new : Cells) : Type 0 where
  pub count : cell_count new ≡ cell_count old
  pub ends : (decision : List Side) (cell : ℕ) → ends_at new decision cell ≡ ends_at old decision cell
  pub space : new.space ≡ old.space

-- one more cell comes after the others, with its end at each decision; the others keep theirs
pub record Adds (end : List Side → CellEnd) (old new : Cells) : Type 0 where
  pub count : cell_count new ≡ cell_count old + 1
  pub added : (decision : List Side) → ends_at new decision (cell_count old) ≡ end decision
  pub kept : (decision : List Side) (cell : ℕ) → cell < cell_count old → ends_at new decision cell ≡ ends_at old decision cell
  pub space : new.space ≡ old.space

-- a cell is bound to another one in a context, and all else stays
pub record IsBound (N : ℕ) (region : Region) (cell to : ℕ) (old new : Cells) : Type 0 where
  pub count : cell_count new ≡ cell_count old
  pub admitted : (decision : List Side) → Admits region decision → ends_at new decision cell ≡ Same to
  pub others : (decision : List Side) → IsOf N old.space decision → (Admits region decision → ⊥) → ends_at new decision cell ≡ ends_at old decision cell
  pub elsewhere : (decision : List Side) (other : ℕ) → (other ≡ cell → ⊥) → ends_at new decision other ≡ ends_at old decision other
  pub space : new.space ≡ old.space
  pub spare : new.spare ≡ old.spare

-- the end of a cell that is one of two by a dimension
abbrev pub one_of : ℕ → ℕ → ℕ → List Side → CellEnd
one_of dim left right decision = by_side (slice_get decision dim) (Same left) (Same right)

-- the choices that a decision comes by in the diagram of a cell that may not be there
abbrev pub ways_of : Option Diagram → Ways
ways_of None decision dim = ⊥
ways_of (Some diagram) decision dim = Passes diagram decision dim

-- the least dimension on which a cell's own diagram branches within a context; none where there is none
abbrev pub IsCellBranch : Cells → ℕ → Region → Option ℕ → Type 0
IsCellBranch store cell region found = IsLeastBranch region (ways_of (slice_get store.cells cell)) found

-- all decisions that a context admits have one end
abbrev pub IsOneEnd : Cells → ℕ → Region → Type 0
IsOneEnd store cell region = (one other : List Side) → Admits region one → Admits region other → ends_at store one cell ≡ ends_at store other cell

-- the end with every cell's number raised
abbrev pub raised_end : ℕ → CellEnd → CellEnd
raised_end by Free = Free
raised_end by (Same cell) = Same (cell + by)
raised_end by (Made head kids) = Made head (map (λ kid. kid + by) kids)

-- the cells of another store come after the old ones, and name each other as they did there
pub record IsAppended (old other new : Cells) : Type 0 where
  pub count : cell_count new ≡ cell_count old + cell_count other
  pub kept : (decision : List Side) (cell : ℕ) → cell < cell_count old → ends_at new decision cell ≡ ends_at old decision cell
  pub added : (decision : List Side) (cell : ℕ) → cell < cell_count other → ends_at new decision (cell_count old + cell) ≡ raised_end (cell_count old) (ends_at other decision cell)
  pub space : new.space ≡ old.space
