use Rattle.std.proofs.Common.{◌≡◌, ◌⊎◌, ℕ, inl, inr, List, Option, Some, None, slice_get, slice_set, refl, sym, subst}
use Rattle.vt_dec.specs.declared.side.Side.{Side}
use Rattle.vt_dec.specs.declared.side.Side.TheVariants.{Left, Right}
use Rattle.vt_dec.specs.declared.side.Space.TheVariants.{All}
use Rattle.vt_dec.specs.Decisions.{Region, Agrees}
use Rattle.vt_store.specs.Patterns.{FateMap, fate_at, IsOneFate, IsShown}
use Rattle.vt_store.specs.Stores.{Cells, cell_count, ends_at}
use Rattle.vt_norm.specs.declared.front.Spot.{Spot}
use Rattle.vt_norm.specs.declared.front.Spot.TheVariants.{Wrong}
use Rattle.vt_norm.specs.declared.front.Front.{Front, Leaf}
use Rattle.vt_norm.specs.Fronts.{spot_at, IsSpotOf, IsJoinedFront}
use Rattle.vt_norm.specs.ReadOut.{IsShownFront}
use Rattle.vt_norm.specs.Resolving.{IsResolved}
use Rattle.vt_norm.specs.Sides.{taken_side}
use Rattle.vt_norm.proofs.FrontNodes.{cells-joined}
use Rattle.vt_norm.proofs.Naming.{either_side}
use Rattle.vt_norm.proofs.Placing.{child-taken}

-- The decisions of a part that are shown.

-- what is said of a decision depends on what stands there alone
abbrev Said : Cells → FateMap → ℕ → ℕ → List Side → Spot → Type 0
Said store pattern root mark d spot =
    (IsShown mark (fate_at pattern d) × IsSpotOf (cell_count store) (ends_at store d) root spot) ⊎ ((IsShown mark (fate_at pattern d) → ⊥) × (spot ≡ Wrong))

pub shown-both : (store : Cells) (pattern : FateMap) (root mark : ℕ) (part on_left on_right : List (Option Side)) (dim : ℕ) (left right front : Front) → slice_get part dim ≡ Some None
    → on_left ≡ slice_set part dim (Some Left) → on_right ≡ slice_set part dim (Some Right)
    → IsShownFront store pattern root mark on_left left → IsShownFront store pattern root mark on_right right → IsJoinedFront dim left right front → IsShownFront store pattern root mark part front
shown-both store pattern root mark part on_left on_right dim left right front opened l r h k j =
    let h = rw l at h in
    let k = rw r at k in
    record {
      cells = cells-joined (cell_count store) dim left right front j h.cells k.cells;
      spots = λ d a. (let side = either_side part dim d a opened in by h k d side.0 side.1 side.2);
    }
  where
    by : IsShownFront store pattern root mark (slice_set part dim (Some Left)) left → IsShownFront store pattern root mark (slice_set part dim (Some Right)) right → (d : List Side) (side : Side) → taken_side d dim ≡ side → Agrees (slice_set part dim (Some side)) d → Said store pattern root mark d (spot_at d front)
    by h k d Left t a = subst (Said store pattern root mark d) (sym (child-taken dim Left left right front d j t)) (h.spots d a)
    by h k d Right t a = subst (Said store pattern root mark d) (sym (child-taken dim Right left right front d j t)) (k.spots d a)
