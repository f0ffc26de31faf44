use Rattle.std.specs.Prelude.{◌≡◌, ◌↔◌, ℕ, ◌*◌, ◌<◌, ◌≤◌, List, Option, Some, None, length}
use Rattle.vt_dec.specs.declared.side.Side.{Side}
use Rattle.vt_dec.specs.declared.side.Space.{Space}
use Rattle.vt_dec.specs.Decisions.{Region, Decides, Takes, IsIn, IsNextDecided}
use Rattle.vt_diagram.specs.declared.entry.Entry.{Entry}
use Rattle.vt_diagram.specs.Tables.{Holds, tree_at, value_at}
use Rattle.vt_diagram.specs.Trees.{IsOrdered}

-- A region is a diagram that is not 0 exactly at the decisions of a set.

-- the decision is in the region
abbrev pub Has : List Entry → ℕ → List Side → Type 0
Has entries id decision = value_at entries id decision ≡ 0 → ⊥

-- a decision of the space, with a side for each of 64 * N dimensions
pub record IsOf (N : ℕ) (space : Space) (decision : List Side) : Type 0 where
  pub sized : length decision ≡ 64 * N
  pub inside : IsIn space decision

-- in the space, the region has the decisions of the set and no others
abbrev pub IsRegion : ℕ → Space → List Entry → (List Side → Type 0) → ℕ → Type 0
IsRegion N space entries set id =
    Holds entries id × ((decision : List Side) → IsOf N space decision → Has entries id decision ↔ set decision)

-- the region has exactly the decisions that take a side
abbrev pub IsSide : ℕ → List Entry → ℕ → Side → ℕ → Type 0
IsSide N entries dim side id = Holds entries id × ((decision : List Side) → length decision ≡ 64 * N → Has entries id decision ↔ Takes decision dim side)

-- a decision of the space that the region has, or none
abbrev pub IsMember : ℕ → Space → List Entry → ℕ → Option (List Side) → Type 0
IsMember N space entries id None = (decision : List Side) → IsOf N space decision → Has entries id decision → ⊥
IsMember N space entries id (Some decision) = IsOf N space decision × Has entries id decision

-- in the space, the diagram has a value in a region, and what another one has outside of it
pub record IsWritten (N : ℕ) (space : Space) (entries : List Entry) (region value old id : ℕ) : Type 0 where
  pub within : Holds entries id
  pub inside : (decision : List Side) → IsOf N space decision → Has entries region decision → value_at entries id decision ≡ value
  pub outside : (decision : List Side) → IsOf N space decision → (Has entries region decision → ⊥) → value_at entries id decision ≡ value_at entries old decision

-- the part of a region that takes a side, by a dimension before all of the region's
pub record IsOnSide (bound : ℕ) (entries : List Entry) (dim : ℕ) (side : Side) (rest id : ℕ) : Type 0 where
  pub within : Holds entries id
  pub has : (decision : List Side) → length decision ≡ bound → Has entries id decision ↔ (Takes decision dim side × Has entries rest decision)
  pub ordered : (from : ℕ) → from ≤ dim → IsOrdered bound from (tree_at entries id)

-- the decision takes what the context decides from a dimension on
abbrev pub TakesFrom : Region → ℕ → List Side → Type 0
TakesFrom region from decision = (dim : ℕ) (side : Side) → from ≤ dim → Decides region dim side → Takes decision dim side

-- the region has exactly these decisions
pub record IsRegionFrom (bound : ℕ) (region : Region) (from : ℕ) (entries : List Entry) (id : ℕ) : Type 0 where
  pub within : Holds entries id
  pub has : (decision : List Side) → length decision ≡ bound → Has entries id decision ↔ TakesFrom region from decision
  pub ordered : IsOrdered bound from (tree_at entries id)

-- the first dimension from a number on that the context decides
pub record IsNextIn (region : Region) (from dim : ℕ) (side : Side) : Type 0 where
  pub next : IsNextDecided region from (Some (dim, side))
  pub later : from ≤ dim
  pub within : dim < length region.sides

abbrev pub IsNextOf : Region → ℕ → Option (ℕ × Side) → Type 0
IsNextOf region from None = IsNextDecided region from None
IsNextOf region from (Some found) = IsNextIn region from found.0 found.1
