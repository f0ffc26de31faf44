use Rattle.std.specs.Prelude.{◌≡◌, ℕ, ◌<◌, List, Some, None, Option, slice_get}
use Rattle.vt_dec.specs.declared.side.Side.{Side}
use Rattle.vt_dec.specs.Decisions.{Agrees}
use Rattle.vt_type.specs.declared.head.Head.{Head}
use Rattle.vt_type.specs.declared.plain.Plain.{Plain}
use Rattle.vt_store.specs.Stores.{Cells, cell_count, ends_at}
use Rattle.vt_store.specs.Solutions.{Solves}
use Rattle.vt_norm.specs.declared.resolving.Turn.{Turn}
use Rattle.vt_norm.specs.declared.resolving.Turn.TheVariants.{Split, There}
use Rattle.vt_norm.specs.declared.front.Spot.TheVariants.{Made}
use Rattle.vt_norm.specs.declared.front.Front.{Front}
use Rattle.vt_norm.specs.Fronts.{spot_at, HasCells, HaveCells, IsSpot, IsSpotOf}

-- at each decision of the part the two cells have one type in each solution
abbrev pub LeadsTo : Cells → List (Option Side) → ℕ → ℕ → Type 0
LeadsTo store part cell last = (decision : List Side) → Agrees part decision → (s : ℕ → Plain) → Solves (cell_count store) (ends_at store decision) s → s cell ≡ s last

-- How far links are followed: to a cell that asks for the side of an open dimension, or to the end.
abbrev pub IsTurn : Cells → List (Option Side) → ℕ → Turn → Type 0
IsTurn store part cell (Split last dim) = (last < cell_count store) × LeadsTo store part cell last × (slice_get part dim ≡ Some None)
IsTurn store part cell (There spot) =
    HasCells (cell_count store) spot × ((decision : List Side) → Agrees part decision → IsSpotOf (cell_count store) (ends_at store decision) cell spot)

-- what a cell is at each decision of the part, once its links are followed
pub record IsResolved (store : Cells) (part : List (Option Side)) (cell : ℕ) (front : Front) : Type 0 where
  pub cells : HaveCells (cell_count store) front
  pub spots : (decision : List Side) → Agrees part decision → IsSpotOf (cell_count store) (ends_at store decision) cell (spot_at decision front)

-- what the children of this number are, where a head has one
pub record IsBelow (store : Cells) (part : List (Option Side)) (number : ℕ) (front child : Front) : Type 0 where
  pub cells : HaveCells (cell_count store) child
  pub spots : (decision : List Side) → Agrees part decision → (head : Head) (kids : List ℕ) (kid : ℕ) → spot_at decision front ≡ Made head kids → slice_get kids number ≡ Some kid
      → IsSpotOf (cell_count store) (ends_at store decision) kid (spot_at decision child)
  pub places : (decision : List Side) → Agrees part decision → IsSpot (ends_at store decision) (spot_at decision child)
