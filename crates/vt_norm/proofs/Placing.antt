use Rattle.std.proofs.Common.{◌≡◌, ℕ, List, [], ◌∷◌, ◌++◌, Option, Some, None, slice_get, slice_set, refl, sym, ap, subst, ◌∙◌}
use Rattle.std.proofs.lemmas.List.{append-nil}
use Rattle.vt_dec.specs.declared.side.Side.{Side}
use Rattle.vt_dec.specs.declared.side.Side.TheVariants.{Left, Right}
use Rattle.vt_dec.specs.Decisions.{Agrees}
use Rattle.vt_type.specs.Variational.{by_side}
use Rattle.vt_store.specs.Stores.{Cells, cell_count, ends_at}
use Rattle.vt_norm.specs.declared.names.Met.{Met}
use Rattle.vt_type.specs.declared.head.Head.{Head}
use Rattle.vt_norm.specs.declared.front.Spot.{Spot}
use Rattle.vt_norm.specs.declared.front.Spot.TheVariants.{Made, Open}
use Rattle.vt_norm.specs.declared.front.Front.{Front, Leaf, Node}
use Rattle.vt_norm.specs.declared.diagram.Diagram.{Diagram}
use Rattle.vt_norm.specs.Diagrams.{joined}
use Rattle.vt_norm.specs.Sides.{taken_side}
use Rattle.vt_norm.specs.Fronts.{spot_at, IsJoinedFront, IsSpot, IsSpotOf}
use Rattle.vt_norm.specs.Names.{met_at, name_at, top_of, noted, IsTopTree, IsNoted}
use Rattle.vt_norm.specs.Resolving.{IsBelow}
use Rattle.vt_norm.proofs.Deciding.{agrees-unset, taken-of-get}
use Rattle.vt_norm.proofs.Naming.{open-joined, either_side, at-either, met-append, met-here, met-elsewhere}
use Rattle.vt_norm.proofs.FrontNodes.{spot-node, spot-joined, cells-joined}

-- ---- what stands at a node, on the side that is taken

-- all decisions of the part take this side
abbrev pub IsSided : List (Option Side) → ℕ → Side → Type 0
IsSided part dim side = (d : List Side) → Agrees part d → taken_side d dim ≡ side

pub spot-taken : (front left right one : Front) (dim : ℕ) (side : Side) (d : List Side) → front ≡ Node dim left right → one ≡ by_side (Some side) left right → taken_side d dim ≡ side → spot_at d front ≡ spot_at d one
spot-taken front left right one dim Left d is e t = spot-node front dim left right is d ∙ (rw t (ap (spot_at d) (sym e)))
spot-taken front left right one dim Right d is e t = spot-node front dim left right is d ∙ (rw t (ap (spot_at d) (sym e)))

pub taken-under : (part : List (Option Side)) (dim : ℕ) (side : Side) (d : List Side) → slice_get part dim ≡ Some None → Agrees (slice_set part dim (Some side)) d → taken_side d dim ≡ side
taken-under part dim side d e h = taken-of-get d dim side (agrees-unset part d dim side e h).1

-- ---- the root

pub top-side : (part : List (Option Side)) (met : List Met) (here : List ℕ) (front left right one : Front) (dim : ℕ) (side : Side) (tree : Diagram) → front ≡ Node dim left right → one ≡ by_side (Some side) left right → IsSided part dim side → IsTopTree part met here one tree → IsTopTree part met here front tree
top-side part met here front left right one dim side tree is e sided h = record {
  opens = h.opens;
  tops = λ d a. h.tops d a ∙ ap (top_of (name_at d met here)) (sym (spot-taken front left right one dim side d is e (sided d a)));
}

pub top-both : (part on_left on_right : List (Option Side)) (met : List Met) (here : List ℕ) (front left right one other : Front) (dim : ℕ) (first second tree : Diagram) → front ≡ Node dim left right → one ≡ left → other ≡ right → slice_get part dim ≡ Some None
    → on_left ≡ slice_set part dim (Some Left) → on_right ≡ slice_set part dim (Some Right)
    → IsTopTree on_left met here one first → IsTopTree on_right met here other second → tree ≡ joined dim first second → IsTopTree part met here front tree
top-both part on_left on_right met here front left right one other dim first second tree is e f opened l r h k t =
    let h = rw l at h in
    let k = rw r at k in
    rw t (record {
      opens = open-joined part dim first second opened h.opens k.opens;
      tops = at-either part dim first second (λ d. top_of (name_at d met here) (spot_at d front)) opened
          (λ d a. h.tops d a ∙ ap (top_of (name_at d met here)) (sym (spot-taken front left right one dim Left d is e (taken-under part dim Left d opened a))))
          (λ d a. k.tops d a ∙ ap (top_of (name_at d met here)) (sym (spot-taken front left right other dim Right d is f (taken-under part dim Right d opened a))));
    })

-- ---- what is noted

pub note-side : (part : List (Option Side)) (here : List ℕ) (front left right one : Front) (dim : ℕ) (side : Side) (old new : List Met) → front ≡ Node dim left right → one ≡ by_side (Some side) left right → IsSided part dim side → IsNoted part here one old new → IsNoted part here front old new
note-side part here front left right one dim side old new is e sided h = record {
  here = λ d a. h.here d a ∙ ap (λ spot. met_at d old ++ noted here spot) (sym (spot-taken front left right one dim side d is e (sided d a)));
  others = h.others;
}

-- no decision takes both sides
not_both : (part : List (Option Side)) (dim : ℕ) (d : List Side) → slice_get part dim ≡ Some None → Agrees (slice_set part dim (Some Left)) d → Agrees (slice_set part dim (Some Right)) d → ⊥
not_both part dim d opened l r =
    let one = (agrees-unset part d dim Left opened l).1 in
    let other = (agrees-unset part d dim Right opened r).1 in
    cc

pub note-both : (part on_left on_right : List (Option Side)) (here : List ℕ) (front left right one other : Front) (dim : ℕ) (old between new : List Met) → front ≡ Node dim left right → one ≡ left → other ≡ right → slice_get part dim ≡ Some None
    → on_left ≡ slice_set part dim (Some Left) → on_right ≡ slice_set part dim (Some Right)
    → IsNoted on_left here one old between → IsNoted on_right here other between new → IsNoted part here front old new
note-both part on_left on_right here front left right one other dim old between new is e f opened l r h k =
    let h = rw l at h in
    let k = rw r at k in
    record {
      here = λ d a. (let s = either_side part dim d a opened in by h k d s.0 s.1 s.2);
      others = λ d apart. k.others d (λ a. apart (agrees-unset part d dim Right opened a).0) ∙ h.others d (λ a. apart (agrees-unset part d dim Left opened a).0);
    }
  where
    by : IsNoted (slice_set part dim (Some Left)) here one old between → IsNoted (slice_set part dim (Some Right)) here other between new → (d : List Side) (side : Side) → taken_side d dim ≡ side → Agrees (slice_set part dim (Some side)) d → met_at d new ≡ met_at d old ++ noted here (spot_at d front)
    by h k d Left t a =
        k.others d (λ b. not_both part dim d opened a b) ∙ h.here d a ∙ ap (λ spot. met_at d old ++ noted here spot) (sym (spot-taken front left right one dim Left d is e t))
    by h k d Right t a =
        k.here d a ∙ ap (λ places. places ++ noted here (spot_at d other)) (h.others d (λ b. not_both part dim d opened b a)) ∙ ap (λ spot. met_at d old ++ noted here spot) (sym (spot-taken front left right other dim Right d is f t))

-- ---- the child

pub below-side : (store : Cells) (part : List (Option Side)) (number : ℕ) (front left right one : Front) (dim : ℕ) (side : Side) (child : Front) → front ≡ Node dim left right → one ≡ by_side (Some side) left right → IsSided part dim side → IsBelow store part number one child → IsBelow store part number front child
below-side store part number front left right one dim side child is e sided h = record {
  cells = h.cells;
  spots = λ d a head kids kid s g. h.spots d a head kids kid (sym (spot-taken front left right one dim side d is e (sided d a)) ∙ s) g;
  places = h.places;
}

pub child-taken : (dim : ℕ) (side : Side) (left right child : Front) (d : List Side) → IsJoinedFront dim left right child → taken_side d dim ≡ side → spot_at d child ≡ spot_at d (by_side (Some side) left right)
child-taken dim Left left right child d j t = spot-joined dim left right child j d ∙ (rw t refl)
child-taken dim Right left right child d j t = spot-joined dim left right child j d ∙ (rw t refl)

pub below-both : (store : Cells) (part on_left on_right : List (Option Side)) (number : ℕ) (front left right one other : Front) (dim : ℕ) (first second child : Front) → front ≡ Node dim left right → one ≡ left → other ≡ right → slice_get part dim ≡ Some None
    → on_left ≡ slice_set part dim (Some Left) → on_right ≡ slice_set part dim (Some Right)
    → IsBelow store on_left number one first → IsBelow store on_right number other second → IsJoinedFront dim first second child → IsBelow store part number front child
below-both store part on_left on_right number front left right one other dim first second child is e f opened l r h k j =
    let h = rw l at h in
    let k = rw r at k in
    record {
      cells = cells-joined (cell_count store) dim first second child j h.cells k.cells;
      spots = λ d a head kids kid s g. (let side = either_side part dim d a opened in by h k d head kids kid s g side.0 side.1 side.2);
      places = λ d a. (let side = either_side part dim d a opened in there h k d side.0 side.1 side.2);
    }
  where
    there : IsBelow store (slice_set part dim (Some Left)) number one first → IsBelow store (slice_set part dim (Some Right)) number other second → (d : List Side) (side : Side) → taken_side d dim ≡ side → Agrees (slice_set part dim (Some side)) d → IsSpot (ends_at store d) (spot_at d child)
    there h k d Left t a = rw (child-taken dim Left first second child d j t) (h.places d a)
    there h k d Right t a = rw (child-taken dim Right first second child d j t) (k.places d a)

    by : IsBelow store (slice_set part dim (Some Left)) number one first → IsBelow store (slice_set part dim (Some Right)) number other second
        → (d : List Side) (head : Head) (kids : List ℕ) (kid : ℕ) → spot_at d front ≡ Made head kids → slice_get kids number ≡ Some kid → (side : Side) → taken_side d dim ≡ side → Agrees (slice_set part dim (Some side)) d → IsSpotOf (cell_count store) (ends_at store d) kid (spot_at d child)
    by h k d head kids kid s g Left t a =
        subst (IsSpotOf (cell_count store) (ends_at store d) kid) (sym (child-taken dim Left first second child d j t)) (h.spots d a head kids kid (sym (spot-taken front left right one dim Left d is e t) ∙ s) g)
    by h k d head kids kid s g Right t a =
        subst (IsSpotOf (cell_count store) (ends_at store d) kid) (sym (child-taken dim Right first second child d j t)) (k.spots d a head kids kid (sym (spot-taken front left right other dim Right d is f t) ∙ s) g)

-- an open cell is noted
pub noted-open : (part : List (Option Side)) (here path : List ℕ) (cell : ℕ) (spot : Spot) (old new : List Met) → spot ≡ Open cell → path ≡ here → new ≡ old ++ record { cell = cell; path = path; part = part } ∷ [] → IsNoted part here (Leaf spot) old new
noted-open part here path cell spot old new e p is =
    rw (is, e, p) (record {
      here = λ d a. met-append d old (record { cell = cell; path = here; part = part } ∷ []) ∙ ap (λ more. met_at d old ++ more) (met-here d (record { cell = cell; path = here; part = part }) [] a);
      others = λ d apart. met-append d old (record { cell = cell; path = here; part = part } ∷ []) ∙ ap (λ more. met_at d old ++ more) (met-elsewhere d (record { cell = cell; path = here; part = part }) [] apart) ∙ append-nil (met_at d old);
    })
