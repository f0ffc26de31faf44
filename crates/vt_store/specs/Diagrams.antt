use Rattle.std.specs.Prelude.{◌≡◌, ◌⊎◌, ℕ, ◌+◌, ◌*◌, ◌^◌, ◌<◌, ◌≤◌, List, map, Option, Some, None, length, slice_get}
use Rattle.std.specs.List.{All}
use Rattle.vt_dec.specs.declared.side.Side.{Side}
use Rattle.vt_type.specs.Plain.{arity}
use Rattle.vt_type.specs.Variational.{by_side}
use Rattle.vt_store.specs.Branches.{PassesChoice}
use Rattle.vt_store.specs.Ends.{CellEnd, Free, Same, Made}
use Rattle.vt_store.specs.declared.diagram.Diagram.{Diagram, Open, Link, Con, Choice', end_of-Diagram, more_of-Diagram}

-- a choice between two diagrams by a dimension
pattern abbrev pub choice : ℕ → Diagram → Diagram → Diagram
choice dim left right = Choice' dim tt (more_of-Diagram left end_of-Diagram) tt (more_of-Diagram right end_of-Diagram)

-- the end at a decision
abbrev pub end_in : List Side → Diagram → CellEnd
end_in decision Open = Free
end_in decision (Link cell) = Same cell
end_in decision (Con head kids) = Made head kids
end_in decision (choice dim left right) = by_side (slice_get decision dim) (end_in decision left) (end_in decision right)

-- dimensions rise on every way down, from one on and below a bound
abbrev pub IsOrdered : ℕ → ℕ → Diagram → Type 0
IsOrdered bound from Open = Unit {0}
IsOrdered bound from (Link cell) = Unit {0}
IsOrdered bound from (Con head kids) = Unit {0}
IsOrdered bound from (choice dim left right) = (from ≤ dim) × (dim < bound) × IsOrdered bound (dim + 1) left × IsOrdered bound (dim + 1) right

-- all dimensions are later than what comes before the one of the root, if the root is a choice
abbrev pub IsBehind : ℕ → Option ℕ → Diagram → Type 0
IsBehind bound None diagram = (from : ℕ) → IsOrdered bound from diagram
IsBehind bound (Some dim) diagram = (dim < bound) × IsOrdered bound dim diagram

-- every end, at whatever place, names only cells below a number, and has as many as the head's arity
abbrev pub HasCells : ℕ → Diagram → Type 0
HasCells count Open = Unit {0}
HasCells count (Link cell) = cell < count
HasCells count (Con head kids) = (length kids ≡ arity head) × All (λ kid. kid < count) kids
HasCells count (choice dim left right) = HasCells count left × HasCells count right

-- every cell's number can be raised by so much
abbrev pub HasRoom : ℕ → Diagram → Type 0
HasRoom by Open = Unit {0}
HasRoom by (Link cell) = cell + by < 2 ^ 64
HasRoom by (Con head kids) = All (λ kid. kid + by < 2 ^ 64) kids
HasRoom by (choice dim left right) = HasRoom by left × HasRoom by right

-- the diagram with every cell's number raised
abbrev pub raised : ℕ → Diagram → Diagram
raised by Open = Open
raised by (Link cell) = Link (cell + by)
raised by (Con head kids) = Con head (map (λ kid. kid + by) kids)
raised by (choice dim left right) = choice dim (raised by left) (raised by right)

-- the diagram with every cell replaced
abbrev pub mapped : (ℕ → ℕ) → Diagram → Diagram
mapped by Open = Open
mapped by (Link cell) = Link (by cell)
mapped by (Con head kids) = Con head (map by kids)
mapped by (choice dim left right) = choice dim (mapped by left) (mapped by right)

-- the choices that a decision comes by
abbrev pub Passes : Diagram → List Side → ℕ → Type 0
Passes Open decision dim = ⊥
Passes (Link cell) decision dim = ⊥
Passes (Con head kids) decision dim = ⊥
Passes (choice own left right) decision dim = PassesChoice own (Passes left) (Passes right) decision dim

-- what a store keeps of each diagram
pub record IsDiagram (N count : ℕ) (diagram : Diagram) : Type 0 where
  pub ordered : IsOrdered (64 * N) 0 diagram
  pub cells : HasCells count diagram

-- two sides that are one, and no choice
abbrev pub AreOneLeaf : Diagram → Diagram → Type 0
AreOneLeaf left right = (left ≡ right) × ((from : ℕ) (bound : ℕ) → IsOrdered bound from left)

-- a choice between two sides, or one of them where they are one
abbrev pub IsJoined : ℕ → Diagram → Diagram → Diagram → Type 0
IsJoined dim left right diagram = (diagram ≡ choice dim left right) ⊎ ((diagram ≡ left) × AreOneLeaf left right)
