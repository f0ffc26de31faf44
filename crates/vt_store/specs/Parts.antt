use Rattle.std.specs.Prelude.{◌≡◌, ℕ, ◌<◌, ◌≤◌, List, length, map, slice_index, slice_index_or}
use Rattle.std.specs.List.{All}
use Rattle.vt_dec.specs.declared.side.Side.{Side}
use Rattle.vt_store.specs.Ends.{CellEnd, EachCell, mapped_end}
use Rattle.vt_store.specs.declared.diagram.Diagram.{Diagram, Open}
use Rattle.vt_store.specs.Diagrams.{HasCells, mapped}
use Rattle.vt_store.specs.Stores.{Cells, cell_count, ends_at}
use Rattle.vt_store.specs.declared.store.Part.{Part}

-- At one decision: the cells of a part are cells of the whole under other numbers, with the same ends.
pub record IsPartOf (count : ℕ) (part : ℕ → CellEnd) (all : ℕ) (whole : ℕ → CellEnd) (origin : ℕ → ℕ) : Type 0 where
  pub within : (cell : ℕ) → cell < count → origin cell < all
  pub different : (one other : ℕ) → one < count → other < count → origin one ≡ origin other → one ≡ other
  pub closed : (cell : ℕ) → cell < count → EachCell (λ other. other < count) (part cell)
  pub ends : (cell : ℕ) → cell < count → whole (origin cell) ≡ mapped_end origin (part cell)

-- a store that has some cells of another one, under other numbers, with the same ends at each decision
pub record IsPart {N : ℕ} (whole : Cells) (cells : List ℕ) (root : ℕ) (part : Part N) : Type 0 where
  pub space : part.store.space ≡ whole.space
  pub origin : ℕ → ℕ
  pub cells_are : map origin part.cells ≡ cells
  pub root_is : origin part.root ≡ root
  pub cells_within : All (λ cell. cell < cell_count part.store) part.cells
  pub root_within : part.root < cell_count part.store
  pub ends : (decision : List Side) → IsPartOf (cell_count part.store) (ends_at part.store decision) (cell_count whole) (ends_at whole decision) origin

-- Inside, the cells of a part are numbered as they are found.

-- no cell stands at two places
abbrev pub AreDistinct : List ℕ → Type 0
AreDistinct found = (one other : ℕ) → one < length found → other < length found → slice_index found one ≡ slice_index found other → one ≡ other

-- where all are below a number, there are at most so many
abbrev pub AreFew : List ℕ → Type 0
AreFew found = (count : ℕ) → All (λ cell. cell < count) found → length found ≤ count

-- more cells were found, and the earlier ones keep their places
pub record IsLater (old new : List ℕ) : Type 0 where
  pub longer : length old ≤ length new
  pub kept : (place : ℕ) → place < length old → slice_index new place ≡ slice_index old place

-- a cell has its place among those that were found, the last one where it is new
pub record IsFound (old new : List ℕ) (cell place : ℕ) : Type 0 where
  pub later : IsLater old new
  pub same : slice_index new place ≡ cell
  pub placed : place < length new
  pub within : (count : ℕ) → cell < count → All (λ own. own < count) old → All (λ own. own < count) new

-- cells are written by their places among those that were found
pub record AreMoved (old new cells places : List ℕ) : Type 0 where
  pub later : IsLater old new
  pub same : map (slice_index new) places ≡ cells
  pub placed : All (λ place. place < length new) places
  pub within : (count : ℕ) → All (λ cell. cell < count) cells → All (λ cell. cell < count) old → All (λ cell. cell < count) new

-- a diagram of cells below a number is written by their places among those that were found
pub record IsMoved (count : ℕ) (old new : List ℕ) (from to : Diagram) : Type 0 where
  pub later : IsLater old new
  pub same : mapped (slice_index new) to ≡ from
  pub placed : HasCells (length new) to
  pub within : All (λ cell. cell < count) old → All (λ cell. cell < count) new

-- the diagrams of some of the cells that were found, each of one place
pub record AreCopied (diagrams : List Diagram) (found : List ℕ) (copies : List Diagram) : Type 0 where
  pub few : length copies ≤ length found
  pub within : All (λ cell. cell < length diagrams) found
  pub same : (place : ℕ) → place < length copies → mapped (slice_index found) (slice_index_or copies place Open) ≡ slice_index_or diagrams (slice_index found place) Open
  pub placed : All (HasCells (length found)) copies

-- the diagrams of all cells that were found
pub record AreTaken (diagrams : List Diagram) (old new : List ℕ) (copies : List Diagram) : Type 0 where
  pub later : IsLater old new
  pub all : length copies ≡ length new
  pub distinct : AreDistinct new
  pub copied : AreCopied diagrams new copies
