use Rattle.std.specs.Prelude.{◌≡◌, ◌⊎◌, ℕ, zero, suc, ◌<◌, ◌≤◌, ◌↔◌, List, length, slice_index, slice_index_or}
use Rattle.std.specs.List.{All}
use Rattle.vt_dec.specs.declared.side.Side.{Side}
use Rattle.vt_type.specs.declared.plain.Plain.{Plain}
use Rattle.vt_store.specs.Ends.{CellEnd, Free, Same, mapped_end}
use Rattle.vt_store.specs.Solutions.{Solves}
use Rattle.vt_store.specs.declared.diagram.Diagram.{Diagram, Open, Link, Con}
use Rattle.vt_store.specs.Diagrams.{choice, end_in, IsOrdered, HasCells, mapped}
use Rattle.vt_store.specs.Writes.{IsOf}
use Rattle.vt_store.specs.Stores.{Cells, cell_count, ends_at}
use Rattle.vt_store.specs.declared.store.Shared.{Shared}

-- A store whose cells are those of another one, where some stand for others: it has the same solutions, and each of
-- them gives a cell and its representative one type.
pub record IsShared (N : ℕ) (store : Cells) (shared : Shared N) : Type 0 where
  pub space : shared.store.space ≡ store.space
  pub count : cell_count shared.store ≡ cell_count store
  pub sized : length shared.representatives ≡ cell_count store
  pub cells : All (λ cell. cell < cell_count store) shared.representatives
  pub solutions : (decision : List Side) → IsOf N store.space decision → (s : ℕ → Plain)
      → Solves (cell_count store) (ends_at store decision) s ↔ Solves (cell_count store) (ends_at shared.store decision) s
  pub same : (decision : List Side) → IsOf N store.space decision → (s : ℕ → Plain) → Solves (cell_count store) (ends_at store decision) s
      → (cell : ℕ) → cell < cell_count store → s (slice_index shared.representatives cell) ≡ s cell

-- Inside, a cell stands for another one where both have one diagram, or where the other one is a link to it.

-- no decision comes to an open end
abbrev pub IsNowhereOpen : Diagram → Type 0
IsNowhereOpen Open = ⊥
IsNowhereOpen (Link cell) = Unit {0}
IsNowhereOpen (Con head kids) = Unit {0}
IsNowhereOpen (choice dim left right) = IsNowhereOpen left × IsNowhereOpen right

-- two diagrams that are nowhere open, and one once each cell is replaced by its representative
pub record AreAlike (names : List ℕ) (one other : Diagram) : Type 0 where
  pub bound : IsNowhereOpen one
  pub same : mapped (slice_index names) one ≡ mapped (slice_index names) other

-- a link at every decision, to a cell with this representative
pub record IsLinkTo (names : List ℕ) (diagram : Diagram) (name : ℕ) : Type 0 where
  pub next : ℕ
  pub is : diagram ≡ Link next
  pub same : slice_index names next ≡ name

-- the diagram of a cell
abbrev pub diagram_of : List Diagram → ℕ → Diagram
diagram_of diagrams cell = slice_index_or diagrams cell Open

-- why one cell may stand for another
abbrev pub MayStand : List Diagram → List ℕ → ℕ → ℕ → Type 0
MayStand diagrams names cell name = (name ≡ cell) ⊎ (IsLinkTo names (diagram_of diagrams cell) name ⊎ AreAlike names (diagram_of diagrams cell) (diagram_of diagrams name))

-- a representative for each cell, which may stand for it
pub record AreNames (diagrams : List Diagram) (names : List ℕ) : Type 0 where
  pub sized : length names ≡ length diagrams
  pub cells : All (λ name. name < length diagrams) names
  pub stand : (cell : ℕ) → cell < length diagrams → MayStand diagrams names cell (slice_index names cell)

-- the next cell, where a diagram is a link at every decision
abbrev pub next_cell : Diagram → ℕ → ℕ
next_cell Open cell = cell
next_cell (Link next) cell = next
next_cell (Con head kids) cell = cell
next_cell (choice dim left right) cell = cell

-- the cell to which so many links lead, or at which they end before
abbrev pub followed : List Diagram → ℕ → ℕ → ℕ
followed diagrams zero cell = cell
followed diagrams (suc most) cell = followed diagrams most (next_cell (diagram_of diagrams cell) cell)

-- each cell has the one at which its links end
pub record AreStraight (diagrams : List Diagram) (names : List ℕ) : Type 0 where
  pub sized : length names ≡ length diagrams
  pub each : (cell : ℕ) → cell < length diagrams → slice_index names cell ≡ followed diagrams (length diagrams) cell

-- The representatives of all cells, of which those from one on were looked at: a cell before them stands for itself
-- alone, and none of them is represented by one before them.
pub record AreRepresentatives (diagrams : List Diagram) (from : ℕ) (names : List ℕ) : Type 0 where
  pub sized : length names ≡ length diagrams
  pub before : (cell : ℕ) → cell < from → cell < length diagrams → slice_index names cell ≡ cell
  pub behind : (cell : ℕ) → from ≤ cell → cell < length diagrams → from ≤ slice_index names cell
  pub cells : All (λ name. name < length diagrams) names
  pub stand : (cell : ℕ) → cell < length diagrams → MayStand diagrams names cell (slice_index names cell)

-- the representative that is found for one more cell: itself or a later one
pub record IsFoundFor (diagrams : List Diagram) (names : List ℕ) (cell name : ℕ) : Type 0 where
  pub later : cell ≤ name
  pub within : name < length diagrams
  pub stands : MayStand diagrams names cell name

-- the ends of a diagram, with each cell replaced by its representative
pub record IsRepresented (names : List ℕ) (from to : Diagram) : Type 0 where
  pub ends : (decision : List Side) → end_in decision to ≡ mapped_end (slice_index names) (end_in decision from)
  pub ordered : (bound first : ℕ) → IsOrdered bound first from → IsOrdered bound first to
  pub cells : (count : ℕ) → HasCells (length names) from → All (λ name. name < count) names → HasCells count to

-- the diagrams of cells, so replaced
pub record AreRepresented (names : List ℕ) (diagrams copies : List Diagram) : Type 0 where
  pub sized : length copies ≡ length diagrams
  pub each : (cell : ℕ) → cell < length diagrams → IsRepresented names (diagram_of diagrams cell) (diagram_of copies cell)

-- why one cell may stand for another at a decision
abbrev pub MayStandAt : (ℕ → CellEnd) → (ℕ → ℕ) → ℕ → Type 0
MayStandAt e name cell =
    ((next : ℕ) × (e cell ≡ Same next) × (name next ≡ name cell))
    ⊎ (((name cell ≡ cell) ⊎ (e cell ≡ Free → ⊥)) × (mapped_end name (e (name cell)) ≡ mapped_end name (e cell)))

-- at one decision: each end has its cells replaced by representatives
pub record IsSharedAt (n : ℕ) (e shared : ℕ → CellEnd) (name : ℕ → ℕ) : Type 0 where
  pub within : (cell : ℕ) → cell < n → name cell < n
  pub ends : (cell : ℕ) → cell < n → shared cell ≡ mapped_end name (e cell)
  pub stand : (cell : ℕ) → cell < n → MayStandAt e name cell
