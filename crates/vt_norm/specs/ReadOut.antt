use Rattle.std.specs.Prelude.{◌≡◌, ◌⊎◌, ℕ, List, Option, Some, None}
use Rattle.vt_dec.specs.declared.side.Side.{Side}
use Rattle.vt_dec.specs.Decisions.{Agrees}
use Rattle.vt_type.specs.NormalForm.{Map}
use Rattle.vt_store.specs.Patterns.{FateMap, fate_at, IsShown}
use Rattle.vt_store.specs.Solutions.{ReadsAs}
use Rattle.vt_store.specs.Stores.{Cells, cell_count, ends_at}
use Rattle.vt_norm.specs.declared.front.Spot.TheVariants.{Wrong}
use Rattle.vt_norm.specs.declared.front.Front.{Front}
use Rattle.vt_norm.specs.Fronts.{spot_at, HaveCells, IsSpotOf}

-- What a cell reads as over all decisions.

-- what a cell reads as at each decision that is shown, and the error at each other one
abbrev pub reads : Cells → FateMap → ℕ → ℕ → Map
reads store pattern root mark decision (Some type) = IsShown mark (fate_at pattern decision) × ReadsAs (cell_count store) (ends_at store decision) root type
reads store pattern root mark decision None = IsShown mark (fate_at pattern decision) → ⊥

-- the cell at each decision of a part that is shown, the error at each other one
pub record IsShownFront (store : Cells) (pattern : FateMap) (root mark : ℕ) (part : List (Option Side)) (front : Front) : Type 0 where
  pub cells : HaveCells (cell_count store) front
  pub spots : (decision : List Side) → Agrees part decision
      → (IsShown mark (fate_at pattern decision) × IsSpotOf (cell_count store) (ends_at store decision) root (spot_at decision front))
      ⊎ ((IsShown mark (fate_at pattern decision) → ⊥) × (spot_at decision front ≡ Wrong))
