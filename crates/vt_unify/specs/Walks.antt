use Rattle.std.specs.Prelude.{◌≡◌, ◌↔◌, ℕ, ◌*◌, ◌<◌, List, [], ◌∷◌, Option, Some, None}
use Rattle.std.specs.List.{Contains}
use Rattle.vt_dec.specs.declared.side.Side.{Side}
use Rattle.vt_dec.specs.Decisions.{Region, Admits, IsSideOf}
use Rattle.vt_store.specs.Ends.{CellEnd, Free, Same, Made, NamesCell, Reaches}
use Rattle.vt_store.specs.Stores.{Cells, cell_count, ends_at, IsOneEnd}
use Rattle.vt_store.specs.Views.{Follows}
use Rattle.vt_unify.specs.declared.answers.Root.{Root}
use Rattle.vt_unify.specs.declared.answers.Root.TheVariants as root
use Rattle.vt_unify.specs.declared.answers.Reach.{Reach}
use Rattle.vt_unify.specs.declared.answers.Reach.TheVariants as reach

-- a dimension of which a context admits decisions on either side
abbrev pub CanSplit : ℕ → Region → ℕ → Type 0
CanSplit N region dim = (dim < 64 * N) × IsSideOf region dim None

-- at each decision of the context links lead from one cell to another
abbrev pub LeadsTo : Cells → Region → ℕ → ℕ → Type 0
LeadsTo store region cell last = (decision : List Side) → Admits region decision → Follows (ends_at store decision) cell last

-- the end is no link
abbrev pub IsNoLink : CellEnd → Type 0
IsNoLink Free = Unit {0}
IsNoLink (Same cell) = ⊥
IsNoLink (Made head kids) = Unit {0}

-- Links lead to the last cell at each decision of the context, and it has one end there, which is no link.
pub record IsRoot (store : Cells) (region : Region) (cell last : ℕ) : Type 0 where
  pub within : last < cell_count store
  pub leads : LeadsTo store region cell last
  pub one_end : IsOneEnd store last region
  pub no_link : (decision : List Side) → Admits region decision → IsNoLink (ends_at store decision last)

-- where a cell's links lead: to its root, or it depends on a dimension
abbrev pub IsRootOf : ℕ → Cells → Region → ℕ → Root → Type 0
IsRootOf N store region cell (root.Split dim) = CanSplit N region dim
IsRootOf N store region cell (root.At last) = IsRoot store region cell last

-- whether a cell is another one or contains it: at each decision of the context, at none, or it depends on a dimension
abbrev pub IsReachOf : ℕ → Cells → Region → ℕ → ℕ → Reach → Type 0
IsReachOf N store region outer inner (reach.Split dim) = CanSplit N region dim
IsReachOf N store region outer inner reach.Yes = (decision : List Side) → Admits region decision → Reaches (ends_at store decision) outer inner
IsReachOf N store region outer inner reach.Never = (decision : List Side) → Admits region decision → Reaches (ends_at store decision) outer inner → ⊥

-- the answer where a cell is reached by a way that differs by a dimension or by none
abbrev pub reach_by : Option ℕ → Reach
reach_by None = reach.Yes
reach_by (Some dim) = reach.Split dim

-- the cells that an end names
abbrev pub cells_of : CellEnd → List ℕ
cells_of Free = []
cells_of (Same cell) = cell ∷ []
cells_of (Made head kids) = kids

-- the cells that a cell's ends name at the decisions of a context
abbrev pub AreNamed : Cells → Region → ℕ → List ℕ → Type 0
AreNamed store region cell named = (next : ℕ) → Contains named next ↔ ((decision : List Side) × Admits region decision × NamesCell (ends_at store decision cell) next)

-- at each decision of the context the cell is linked to another one, which is among these; each of them is one that it is linked to
pub record AreLinked (store : Cells) (region : Region) (cell : ℕ) (linked : List ℕ) : Type 0 where
  pub every : (decision : List Side) → Admits region decision → (next : ℕ) × Contains linked next × (ends_at store decision cell ≡ Same next)
  pub only : (next : ℕ) → Contains linked next → (decision : List Side) × Admits region decision × (ends_at store decision cell ≡ Same next)
