use Rattle.std.proofs.Common.{◌≡◌, ℕ, zero, suc, ◌*◌, ◌<◌, List, Option, Some, None, length, slice_get, slice_set, refl, sym, ap, subst, ◌∙◌, arith}
use Rattle.std.specs.List.{All}
use Rattle.vt_dec.specs.declared.side.Side.{Side}
use Rattle.vt_dec.specs.declared.side.Side.TheVariants.{Left, Right}
use Rattle.vt_dec.specs.declared.side.Space.{Space}
use Rattle.vt_dec.specs.declared.side.Space.TheVariants as space
use Rattle.vt_dec.specs.Decisions.{Region, Agrees, IsSideOf}
use Rattle.vt_dec.proofs.Agreement.{Agrees-length}
use Rattle.vt_type.specs.declared.head.Head.{Head}
use Rattle.vt_type.specs.declared.plain.Plain.{Plain}
use Rattle.vt_store.specs.Ends.{CellEnd, Free, Same, EachCell, IsAcyclic, AreArities, HasArity}
use Rattle.vt_store.specs.Ends as ends
use Rattle.vt_store.specs.Stores.{Cells, cell_count, ends_at, IsOneEnd}
use Rattle.vt_store.specs.Solutions.{Fits, Solves}
use Rattle.vt_store.specs.Writes.{IsOf}
use Rattle.vt_store.proofs.Cells.{IsAcyclic-named}
use Rattle.vt_norm.specs.declared.front.Spot.{Spot}
use Rattle.vt_norm.specs.declared.front.Spot.TheVariants.{Made, Open}
use Rattle.vt_norm.specs.declared.front.Front.{Front}
use Rattle.vt_norm.specs.Fronts.{spot_at, IsSpotOf, IsJoinedFront}
use Rattle.vt_norm.specs.Resolving.{LeadsTo, IsResolved}
use Rattle.vt_norm.specs.Sides.{taken_side}
use Rattle.vt_norm.proofs.Deciding.{open-of-sides}
use Rattle.vt_norm.proofs.Naming.{either_side}
use Rattle.vt_norm.proofs.FrontNodes.{spot-joined, cells-joined}

-- Links that are followed, and what stands at their end.

-- a decision of a part is one of the store's
pub is-of : (part : List (Option Side)) (d : List Side) → length part ≡ 64 → Agrees part d → IsOf 1 space.All d
is-of part d sized h = record { sized = Agrees-length part d h ∙ sized; inside = tt }

pub is-of-space : (own : Space) (part : List (Option Side)) (d : List Side) → own ≡ space.All → length part ≡ 64 → Agrees part d → IsOf 1 own d
is-of-space own part d e sized h = rw e (is-of part d sized h)

pub opened-in-part : (part : List (Option Side)) (region : Region) (dim : ℕ) → region ≡ record { sides = part; space = space.All } → length part ≡ 64 → dim < 64 * 1 → IsSideOf region dim None → slice_get part dim ≡ Some None
opened-in-part part region dim e sized small h =
    open-of-sides (record { sides = part; space = space.All }) dim (record { all_space = refl; sized = sized }) (omega arith) (rw e at h)

-- where the cell has one end in the part, it is the end at each decision
pub one-end : (store : Cells) (part : List (Option Side)) (cell : ℕ) (least d : List Side) (end : CellEnd) → IsOneEnd store cell (record { sides = part; space = space.All }) → Agrees part least → end ≡ ends_at store least cell → Agrees part d → ends_at store d cell ≡ end
one-end store part cell least d end one a e b = one d least (record { agrees = b; in_space = tt }) (record { agrees = a; in_space = tt }) ∙ sym e

pub leads-on : (store : Cells) (part : List (Option Side)) (first cell next : ℕ) (least : List Side) → cell < cell_count store → LeadsTo store part first cell → IsOneEnd store cell (record { sides = part; space = space.All }) → Agrees part least → Same next ≡ ends_at store least cell → LeadsTo store part first next
leads-on store part first cell next least within leads one a e d b s solves =
    leads d b s solves ∙ subst (Fits s (s cell)) (one-end store part cell least d (Same next) one a e b) (solves.fits cell within)

pub next-within : (store : Cells) (least : List Side) (cell next : ℕ) → IsAcyclic (cell_count store) (ends_at store least) → cell < cell_count store → Same next ≡ ends_at store least cell → next < cell_count store
next-within store least cell next acyclic h e = subst (EachCell (λ below. below < cell_count store)) (sym e) (IsAcyclic-named (cell_count store) (ends_at store least) acyclic cell h)

pub kids-within : (store : Cells) (least : List Side) (cell : ℕ) (head : Head) (kids : List ℕ) → IsAcyclic (cell_count store) (ends_at store least) → cell < cell_count store → ends.Made head kids ≡ ends_at store least cell → All (λ below. below < cell_count store) kids
kids-within store least cell head kids acyclic h e = subst (EachCell (λ below. below < cell_count store)) (sym e) (IsAcyclic-named (cell_count store) (ends_at store least) acyclic cell h)

-- the end of the links
pub there-open : (store : Cells) (part : List (Option Side)) (first cell : ℕ) (least : List Side) → LeadsTo store part first cell → IsOneEnd store cell (record { sides = part; space = space.All }) → Agrees part least → Free ≡ ends_at store least cell → (d : List Side) → Agrees part d → IsSpotOf (cell_count store) (ends_at store d) first (Open cell)
there-open store part first cell least leads one a e d b = record { right = one-end store part cell least d Free one a e b; same = λ s solves. ap Some (sym (leads d b s solves)) }

pub there-made : (store : Cells) (part : List (Option Side)) (first cell : ℕ) (head : Head) (kids : List ℕ) (least : List Side) → ((d : List Side) → Agrees part d → AreArities (cell_count store) (ends_at store d)) → cell < cell_count store → LeadsTo store part first cell → IsOneEnd store cell (record { sides = part; space = space.All }) → Agrees part least → ends.Made head kids ≡ ends_at store least cell → (d : List Side) → Agrees part d → IsSpotOf (cell_count store) (ends_at store d) first (Made head kids)
there-made store part first cell head kids least arities within leads one a e d b =
    let end = one-end store part cell least d (ends.Made head kids) one a e b in
    record {
      right = subst HasArity end (arities d b cell within);
      same = λ s solves. ap Some (sym (leads d b s solves ∙ subst (Fits s (s cell)) end (solves.fits cell within)));
    }

pub one-of : (store : Cells) (part : List (Option Side)) (region : Region) (cell : ℕ) → region ≡ record { sides = part; space = space.All } → IsOneEnd store cell region → IsOneEnd store cell (record { sides = part; space = space.All })
one-of store part region cell e h = subst (IsOneEnd store cell) e h

pub turn-made : (store : Cells) (part : List (Option Side)) (first cell : ℕ) (head : Head) (kids copy : List ℕ) (least : List Side) → copy ≡ kids → ((d : List Side) → Agrees part d → AreArities (cell_count store) (ends_at store d)) → IsAcyclic (cell_count store) (ends_at store least) → cell < cell_count store → LeadsTo store part first cell → IsOneEnd store cell (record { sides = part; space = space.All }) → Agrees part least → ends.Made head kids ≡ ends_at store least cell
    → All (λ below. below < cell_count store) copy × ((d : List Side) → Agrees part d → IsSpotOf (cell_count store) (ends_at store d) first (Made head copy))
turn-made store part first cell head kids copy least same arities acyclic within leads one a e =
    rw same (kids-within store least cell head kids acyclic within e, there-made store part first cell head kids least arities within leads one a e)

-- what comes after a link stands for the cell too
pub spot-before : (store : Cells) (d : List Side) (first cell : ℕ) (spot : Spot) → ((s : ℕ → Plain) → Solves (cell_count store) (ends_at store d) s → s first ≡ s cell) → IsSpotOf (cell_count store) (ends_at store d) cell spot → IsSpotOf (cell_count store) (ends_at store d) first spot
spot-before store d first cell spot leads h = record { right = h.right; same = λ s solves. h.same s solves ∙ ap Some (sym (leads s solves)) }

pub resolved-both : (store : Cells) (part on_left on_right : List (Option Side)) (first cell dim : ℕ) (left right front : Front) → LeadsTo store part first cell → slice_get part dim ≡ Some None
    → on_left ≡ slice_set part dim (Some Left) → on_right ≡ slice_set part dim (Some Right)
    → IsResolved store on_left cell left → IsResolved store on_right cell right → IsJoinedFront dim left right front → IsResolved store part first front
resolved-both store part on_left on_right first cell dim left right front leads opened l r h k j =
    let h = rw l at h in
    let k = rw r at k in
    record {
      cells = cells-joined (cell_count store) dim left right front j h.cells k.cells;
      spots = λ d a. (let side = either_side part dim d a opened in spot-before store d first cell _ (leads d a) (by h k d side.0 side.1 side.2));
    }
  where
    by : IsResolved store (slice_set part dim (Some Left)) cell left → IsResolved store (slice_set part dim (Some Right)) cell right → (d : List Side) (side : Side) → taken_side d dim ≡ side → Agrees (slice_set part dim (Some side)) d → IsSpotOf (cell_count store) (ends_at store d) cell (spot_at d front)
    by h k d Left t a = rw (spot-joined dim left right front j d, t) (h.spots d a)
    by h k d Right t a = rw (spot-joined dim left right front j d, t) (k.spots d a)
