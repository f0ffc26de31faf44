use Rattle.std.specs.Prelude.{◌≡◌, ◌⊎◌, ◌↔◌, ℕ, ◌<◌, Bool, true, false, cond, nat_eq, List, [], ◌∷◌, ◌++◌, length, map, slice_index, Contains}
use Rattle.std.specs.List.{All}
use Rattle.vt_dec.specs.declared.side.Side.{Side}
use Rattle.vt_dec.specs.declared.side.Side.TheVariants.{Left, Right}
use Rattle.vt_dec.specs.declared.side.Space.{Space}
use Rattle.vt_dec.specs.declared.side.Space.TheVariants.{All as AllOf}
use Rattle.vt_type.specs.declared.plain.Plain.{Plain}
use Rattle.vt_store.specs.Solutions.{Solves}
use Rattle.vt_store.specs.declared.diagram.Diagram.{Diagram, Open, Link, Con}
use Rattle.vt_store.specs.Diagrams.{choice}
use Rattle.vt_store.specs.Writes.{IsOf}
use Rattle.vt_store.specs.Stores.{Cells, cell_count, ends_at}
use Rattle.vt_store.specs.Sharing.{diagram_of}
use Rattle.vt_store.specs.Parts.{AreDistinct}
use Rattle.vt_store.specs.declared.store.Part.{Part}

-- the types that a solution of a store at a decision gives to some cells and to one more
pub record HasTypes (store : Cells) (cells : List ℕ) (root : ℕ) (decision : List Side) (types : List Plain) (type : Plain) : Type 0 where
  pub s : ℕ → Plain
  pub solves : Solves (cell_count store) (ends_at store decision) s
  pub cells_are : map s cells ≡ types
  pub root_is : s root ≡ type

-- the cells and the root of a part are cells of its store
pub record AreIn {N : ℕ} (part : Part N) : Type 0 where
  pub cells : All (λ cell. cell < cell_count part.store) part.cells
  pub root : part.root < cell_count part.store

-- A store with cells that at each decision take together the types that some cells of another store take, and no others.
pub record IsNarrowed (N : ℕ) (whole : Cells) (cells : List ℕ) (root : ℕ) (part : Part N) : Type 0 where
  pub space : part.store.space ≡ whole.space
  pub inside : AreIn part
  pub count : length part.cells ≡ length cells
  pub types : (decision : List Side) → IsOf N whole.space decision → (types : List Plain) (type : Plain)
      → HasTypes part.store part.cells part.root decision types type ↔ HasTypes whole cells root decision types type

-- the space has every decision
abbrev pub IsWhole : Space → Type 0
IsWhole space = space ≡ AllOf

-- Inside, one dimension is looked at.

-- a store whose cells, under their names, take the types that some cells and one more take
abbrev pub IsCutTo : ℕ → Cells → List ℕ → ℕ → Cells → List ℕ → Type 0
IsCutTo N whole kept last store names = IsNarrowed N whole kept last (record { store = store; cells = map (slice_index names) kept; root = slice_index names last })

-- of two by a side
abbrev pub of_side : {A : Type 0} → Side → A → A → A
of_side Left left right = left
of_side Right left right = right

-- the diagram as it is on one side of a dimension
abbrev pub on_side : ℕ → Side → Diagram → Diagram
on_side dim side Open = Open
on_side dim side (Link cell) = Link cell
on_side dim side (Con head kids) = Con head kids
on_side dim side (choice own left right) = cond (nat_eq own dim) (of_side side (on_side dim side left) (on_side dim side right)) (choice own (on_side dim side left) (on_side dim side right))

-- the cells that a diagram names on one side of a dimension
abbrev pub named_on : ℕ → Side → Diagram → List ℕ
named_on dim side Open = []
named_on dim side (Link cell) = cell ∷ []
named_on dim side (Con head kids) = kids
named_on dim side (choice own left right) = cond (nat_eq own dim) (of_side side (named_on dim side left) (named_on dim side right)) (named_on dim side left ++ named_on dim side right)

-- whether a cell is among some
abbrev pub IsWhether : List ℕ → ℕ → Bool → Type 0
IsWhether found cell true = Contains found cell
IsWhether found cell false = Contains found cell → ⊥

-- a cell is added where it was not there before
abbrev pub IsAdded : List ℕ → List ℕ → ℕ → Bool → Type 0
IsAdded old new cell false = (new ≡ old) × Contains old cell
IsAdded old new cell true = new ≡ old ++ cell ∷ []

-- Some cells and one more, and all to which they lead on one side of a dimension. There may be others.
pub record IsReached (diagrams : List Diagram) (dim : ℕ) (side : Side) (kept : List ℕ) (last : ℕ) (found : List ℕ) : Type 0 where
  pub within : All (λ cell. cell < length diagrams) found
  pub cells : All (Contains found) kept
  pub root : Contains found last
  pub closed : (cell : ℕ) → Contains found cell → All (Contains found) (named_on dim side (diagram_of diagrams cell))

-- the same on either side
pub record AreReached (diagrams : List Diagram) (dim : ℕ) (kept : List ℕ) (last : ℕ) (lefts rights : List ℕ) : Type 0 where
  pub left : IsReached diagrams dim Left kept last lefts
  pub right : IsReached diagrams dim Right kept last rights

-- the diagram of a cell that is reached on these sides of a dimension
abbrev pub IsOnSides : ℕ → Bool → Bool → Diagram → Diagram → Type 0
IsOnSides dim true true from to = to ≡ from
IsOnSides dim true false from to = to ≡ on_side dim Left from
IsOnSides dim false true from to = to ≡ on_side dim Right from
IsOnSides dim false false from to = to ≡ Open

-- the diagrams of all cells, as they are on the sides on which they are reached
pub record IsCut (dim : ℕ) (left right : List ℕ) (cell : ℕ) (from to : Diagram) : Type 0 where
  pub on_left : Bool
  pub on_right : Bool
  pub is_left : IsWhether left cell on_left
  pub is_right : IsWhether right cell on_right
  pub is : IsOnSides dim on_left on_right from to

pub record AreOnSides (dim : ℕ) (left right : List ℕ) (diagrams copies : List Diagram) : Type 0 where
  pub sized : length copies ≡ length diagrams
  pub each : (cell : ℕ) → cell < length diagrams → IsCut dim left right cell (diagram_of diagrams cell) (diagram_of copies cell)

-- an open cell among some that is not among others
pub record IsOpenAlone (diagrams : List Diagram) (ones others : List ℕ) (cell : ℕ) : Type 0 where
  pub within : cell < length diagrams
  pub here : Contains ones cell
  pub alone : Contains others cell → ⊥
  pub is_open : diagram_of diagrams cell ≡ Open

abbrev pub AreOpenAlone : List Diagram → List ℕ → List ℕ → List ℕ → Type 0
AreOpenAlone diagrams ones others found = All (IsOpenAlone diagrams ones others) found

-- the second cell of a pair is named by the first one
pub record IsPairedAt (ones others : List ℕ) (cell name : ℕ) : Type 0 where
  pub place : ℕ
  pub in_ones : place < length ones
  pub in_others : place < length others
  pub one : name ≡ slice_index ones place
  pub other : cell ≡ slice_index others place

-- a name for each cell: itself, or the first cell of a pair for the second one
pub record ArePaired (count : ℕ) (ones others names : List ℕ) : Type 0 where
  pub sized : length names ≡ count
  pub distinct : AreDistinct ones
  pub each : (cell : ℕ) → cell < count → (slice_index names cell ≡ cell) ⊎ IsPairedAt ones others cell (slice_index names cell)

-- the pairs are open cells that are reached on one side alone, each of the other side
pub record ArePairs (diagrams : List Diagram) (left right names : List ℕ) : Type 0 where
  pub ones : List ℕ
  pub others : List ℕ
  pub lefts : AreOpenAlone diagrams left right ones
  pub rights : AreOpenAlone diagrams right left others
  pub paired : ArePaired (length diagrams) ones others names
