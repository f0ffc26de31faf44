use Rattle.std.proofs.Common.{◌≡◌, ◌⊎◌, ℕ, suc, ◌+◌, ◌*◌, ◌<◌, ◌≤◌, List, length, slice_get, Option, Some, None, refl, ap, sym, subst, ◌∙◌, inl, inr, arith}
use Rattle.vt_dec.specs.declared.side.Side.{Side}
use Rattle.vt_dec.specs.declared.side.Side.TheVariants.{Left, Right}
use Rattle.vt_type.specs.Variational.{by_side}
use Rattle.vt_store.specs.Ends.{CellEnd}
use Rattle.vt_store.specs.declared.diagram.Diagram.{Diagram, Open, Link, Con, Choice}
use Rattle.vt_store.specs.declared.diagram.Diagram.TheBlock as block
use Rattle.std.proofs.lemmas.Option.{same_Some}
use Rattle.vt_dec.specs.Decisions.{Region, Admits, MustTake, IsSideOf, IsKept}
use Rattle.vt_store.specs.Writes.{IsBefore, IsNextAt, IsGap, IsWrite}
use Rattle.vt_store.proofs.Writing.{write_both, write_left, write_right}
use Rattle.vt_store.specs.Diagrams.{IsJoined, choice, end_in, IsOrdered, IsBehind, HasCells, Passes}
use Rattle.vt_store.specs.Branches.{PassesChoice, Branches, IsLeastBranch}
use Rattle.vt_store.proofs.Branching.{branches_left, branches_right, left_branches, right_branches, branches_here}

-- The choice that the code makes and matches is that of the definitions.
pub diagram_here : (dim : ℕ) (left right : Diagram) → Choice dim left right ≡ choice dim left right
unfolding block.shape-the_row-Diagram-0 block.hidden-the_row-Diagram-0 denote.Hole.Carrier.hidden
diagram_here dim left right = refl

pub diagram_is : (dim : ℕ) (one left other right : Diagram) → one ≡ left → other ≡ right → Choice dim one other ≡ choice dim left right
diagram_is dim one left other right e f = rw (e, f) (diagram_here dim left right)

-- the parts of an ordered choice
pub diagram_parts : (bound from dim : ℕ) (diagram left right : Diagram) → diagram ≡ Choice dim left right → IsOrdered bound from diagram
    → (from ≤ dim) × (dim < bound) × IsOrdered bound (dim + 1) left × IsOrdered bound (dim + 1) right
diagram_parts bound from dim diagram left right is h = subst (IsOrdered bound from) (is ∙ diagram_here dim left right) h

-- it is no choice
abbrev pub IsLeaf : Diagram → Type 0
IsLeaf diagram = (dim : ℕ) (left right : Diagram) → diagram ≡ Choice dim left right → ⊥

pub IsLeaf-behind : (bound : ℕ) (diagram : Diagram) → IsLeaf diagram → IsBehind bound None diagram
IsLeaf-behind bound Open leaf from = tt
IsLeaf-behind bound (Link cell) leaf from = tt
IsLeaf-behind bound (Con head kids) leaf from = tt
IsLeaf-behind bound (choice dim left right) leaf from = absurd (leaf dim left right (sym (diagram_here dim left right)))

IsLeaf-passes : (diagram : Diagram) (decision : List Side) (dim : ℕ) → IsLeaf diagram → Passes diagram decision dim → ⊥
IsLeaf-passes Open decision dim leaf way = way
IsLeaf-passes (Link cell) decision dim leaf way = way
IsLeaf-passes (Con head kids) decision dim leaf way = way
IsLeaf-passes (choice own left right) decision dim leaf way = leaf own left right (sym (diagram_here own left right))

IsLeaf-same : (diagram : Diagram) (one other : List Side) → IsLeaf diagram → end_in one diagram ≡ end_in other diagram
IsLeaf-same Open one other leaf = refl
IsLeaf-same (Link cell) one other leaf = refl
IsLeaf-same (Con head kids) one other leaf = refl
IsLeaf-same (choice own left right) one other leaf = absurd (leaf own left right (sym (diagram_here own left right)))

-- a choice has the cells of its sides
pub cells_parts : (count dim : ℕ) (diagram left right : Diagram) → diagram ≡ Choice dim left right → HasCells count diagram → HasCells count left × HasCells count right
cells_parts count dim diagram left right is h = subst (HasCells count) (is ∙ diagram_here dim left right) h

pub cells_made : (count dim : ℕ) (diagram left right : Diagram) → IsJoined dim left right diagram → HasCells count left → HasCells count right → HasCells count diagram
cells_made count dim diagram left right (inl is) l r = subst (HasCells count) (sym is) (l, r)
cells_made count dim diagram left right (inr (is, leaf)) l r = subst (HasCells count) (sym is) l

-- an earlier dimension will do as the first
pub IsOrdered-earlier : (bound late early : ℕ) (diagram : Diagram) → early ≤ late → IsOrdered bound late diagram → IsOrdered bound early diagram
IsOrdered-earlier bound late early Open le h = tt
IsOrdered-earlier bound late early (Link cell) le h = tt
IsOrdered-earlier bound late early (Con head kids) le h = tt
IsOrdered-earlier bound late early (choice dim left right) le h = (omega (arith, h.0), h.1, h.2, h.3)

-- the parts of an ordered choice, whatever dimension is the first
pub diagram_below : (bound dim : ℕ) (diagram left right : Diagram) → diagram ≡ Choice dim left right → IsOrdered bound 0 diagram → (dim < bound) × IsOrdered bound 0 left × IsOrdered bound 0 right
diagram_below bound dim diagram left right is h =
    let parts = diagram_parts bound 0 dim diagram left right is h in
    (parts.1, IsOrdered-earlier bound (dim + 1) 0 left (omega arith) parts.2, IsOrdered-earlier bound (dim + 1) 0 right (omega arith) parts.3)

-- the end at a choice, where the side is known
pub end_in-choice : (decision : List Side) (diagram : Diagram) (dim : ℕ) (left right : Diagram) (side : Side) → diagram ≡ Choice dim left right → slice_get decision dim ≡ Some side
    → end_in decision diagram ≡ by_side (Some side) (end_in decision left) (end_in decision right)
end_in-choice decision diagram dim left right side is taken =
    ap (end_in decision) (is ∙ diagram_here dim left right) ∙ ap (λ s. by_side s (end_in decision left) (end_in decision right)) taken

-- what is behind a dimension, or is no choice, is ordered from any place before
pub IsBehind-from : (bound : ℕ) (below : Option ℕ) (from : ℕ) (diagram : Diagram) → IsBefore from below ⊎ (below ≡ Some from) → IsBehind bound below diagram → IsOrdered bound from diagram
IsBehind-from bound None from diagram start h = h from
IsBehind-from bound (Some dim) from diagram (inl lt) h = IsOrdered-earlier bound dim from diagram (omega arith) h.1
IsBehind-from bound (Some dim) from diagram (inr same) h = subst (λ d. IsOrdered bound d diagram) (same_Some dim from same) h.1

-- one more choice before what is behind
module _ (bound : ℕ) (region : Region) (from : ℕ) (below : Option ℕ) (dim next : ℕ) (side : Side) (old sub diagram : Diagram)
    (long : length region.sides ≡ bound) (one_more : next ≡ dim + 1) (found : IsNextAt region from below dim side)
    (start : IsBefore next below ⊎ (below ≡ Some next)) (behind : IsBehind bound below old) (ordered : IsOrdered bound next sub) where
  kept_ordered : IsOrdered bound (dim + 1) old
  kept_ordered = subst (λ d. IsOrdered bound d old) one_more (IsBehind-from bound below next old start behind)

  sub_ordered : IsOrdered bound (dim + 1) sub
  sub_ordered = subst (λ d. IsOrdered bound d sub) one_more ordered

  pub guard_left : diagram ≡ choice dim sub old → IsOrdered bound from diagram
  guard_left is = subst (IsOrdered bound from) (sym is) (found.later, omega (arith, found.within), sub_ordered, kept_ordered)

  pub guard_right : diagram ≡ choice dim old sub → IsOrdered bound from diagram
  guard_right is = subst (IsOrdered bound from) (sym is) (found.later, omega (arith, found.within), kept_ordered, sub_ordered)

-- the ends of a choice, at each decision
pub end_in-made : (dim : ℕ) (left right diagram : Diagram) → diagram ≡ choice dim left right
    → ◌≡◌ {A = List Side → CellEnd} (λ decision. by_side (slice_get decision dim) (end_in decision left) (end_in decision right)) (λ decision. end_in decision diagram)
end_in-made dim left right diagram is = λ i decision. end_in decision (sym is i)

pub same_sides : (side : Option Side) (x : CellEnd) → by_side side x x ≡ x
same_sides (Some Left) x = refl
same_sides (Some Right) x = refl
same_sides None x = refl

-- likewise where the two sides may be joined
end_in-joined : (dim : ℕ) (left right diagram : Diagram) → IsJoined dim left right diagram
    → ◌≡◌ {A = List Side → CellEnd} (λ decision. by_side (slice_get decision dim) (end_in decision left) (end_in decision right)) (λ decision. end_in decision diagram)
end_in-joined dim left right diagram (inl made) = end_in-made dim left right diagram made
end_in-joined dim left right diagram (inr (same, leaf)) =
    λ i decision. (ap (λ (own : Diagram). by_side (slice_get decision dim) (end_in decision left) (end_in decision own)) (sym leaf.0) ∙ same_sides (slice_get decision dim) (end_in decision left) ∙ ap (end_in decision) (sym same)) i

-- A choice of which one side or both are written.
module _ (N : ℕ) (region : Region) (dim next from : ℕ) (change : CellEnd → CellEnd) (diagram left right : Diagram)
    (is : diagram ≡ Choice dim left right) (one_more : next ≡ dim + 1) (kept : IsKept region) (ordered : IsOrdered (64 * N) from diagram) where
  abbrev pub IsTurned : Diagram → Type 0
  IsTurned written = IsBehind (64 * N) (Some dim) written × ((stop : ℕ) → IsGap region stop dim → IsWrite N region stop change (λ d. end_in d diagram) (λ d. end_in d written))

  parts : (from ≤ dim) × (dim < 64 * N) × IsOrdered (64 * N) (dim + 1) left × IsOrdered (64 * N) (dim + 1) right
  parts = diagram_parts (64 * N) from dim diagram left right is ordered

  pub left_ordered : IsOrdered (64 * N) next left
  left_ordered = subst (λ n. IsOrdered (64 * N) n left) (sym one_more) parts.2

  pub right_ordered : IsOrdered (64 * N) next right
  right_ordered = subst (λ n. IsOrdered (64 * N) n right) (sym one_more) parts.3

  abbrev sides_of : Diagram → Diagram → List Side → CellEnd
  sides_of one other d = by_side (slice_get d dim) (end_in d one) (end_in d other)

  joined_ordered : (lefts rights written : Diagram) → IsJoined dim lefts rights written → IsOrdered (64 * N) next lefts → IsOrdered (64 * N) next rights → IsOrdered (64 * N) dim written
  joined_ordered lefts rights written (inl made) one other =
      subst (IsOrdered (64 * N) dim) (sym made) (omega arith, parts.1, subst (λ n. IsOrdered (64 * N) n lefts) one_more one, subst (λ n. IsOrdered (64 * N) n rights) one_more other)
  joined_ordered lefts rights written (inr (same, leaf)) one other = subst (IsOrdered (64 * N) dim) (sym same) (leaf.1 dim (64 * N))

  turned : (lefts rights written : Diagram) → IsJoined dim lefts rights written → IsOrdered (64 * N) next lefts → IsOrdered (64 * N) next rights
      → ((stop : ℕ) → IsGap region stop dim → IsWrite N region stop change (sides_of left right) (sides_of lefts rights)) → IsTurned written
  turned lefts rights written made one other writes = (
    (parts.1, joined_ordered lefts rights written made one other),
    λ stop gap. subst (IsWrite N region stop change (λ d. end_in d diagram)) (end_in-joined dim lefts rights written made)
        (subst (λ (old : List Side → CellEnd). IsWrite N region stop change old (sides_of lefts rights)) (end_in-made dim left right diagram (is ∙ diagram_here dim left right)) (writes stop gap)),
  )

  abbrev Writes : Diagram → Diagram → Type 0
  Writes old new = IsOrdered (64 * N) next new × IsWrite N region next change (λ d. end_in d old) (λ d. end_in d new)

  at_next : (old new : Diagram) → Writes old new → IsWrite N region (suc dim) change (λ d. end_in d old) (λ d. end_in d new)
  at_next old new w = subst (λ n. IsWrite N region n change (λ d. end_in d old) (λ d. end_in d new)) (omega arith) w.1

  pub turned_both : (lefts rights written : Diagram) → (dim < 64 * N → IsSideOf region dim None) → Writes left lefts → Writes right rights → IsJoined dim lefts rights written → IsTurned written
  turned_both lefts rights written either one other made =
      turned lefts rights written made one.0 other.0
      (λ stop gap. write_both N region stop change dim gap (either parts.1) parts.1 _ _ _ _ (at_next left lefts one) (at_next right rights other))

  pub turned_left : (lefts copied written : Diagram) → (dim < 64 * N → IsSideOf region dim (Some Left)) → Writes left lefts → copied ≡ right → IsJoined dim lefts copied written → IsTurned written
  turned_left lefts copied written must one same made =
      turned lefts right written (subst (λ (own : Diagram). IsJoined dim lefts own written) same made) one.0 right_ordered
      (λ stop gap. write_left N region stop change dim gap kept parts.1 _ _ (must parts.1) _ (at_next left lefts one))

  pub turned_right : (rights copied written : Diagram) → (dim < 64 * N → IsSideOf region dim (Some Right)) → Writes right rights → copied ≡ left → IsJoined dim copied rights written → IsTurned written
  turned_right rights copied written must other same made =
      turned left rights written (subst (λ (own : Diagram). IsJoined dim own rights written) same made) left_ordered other.0
      (λ stop gap. write_right N region stop change dim gap kept parts.1 _ _ (must parts.1) _ (at_next right rights other))

-- an ordered choice is behind whatever comes before its dimension
pub diagram_behind : (bound from dim : ℕ) (diagram left right : Diagram) → diagram ≡ Choice dim left right → IsOrdered bound from diagram → IsBehind bound (Some dim) diagram
diagram_behind bound from dim diagram left right is h =
    let parts = diagram_parts bound from dim diagram left right is h in
    (parts.1, subst (IsOrdered bound dim) (sym (is ∙ diagram_here dim left right)) (omega arith, parts.1, parts.2, parts.3))

-- ---- where a diagram branches

-- all choices are on later dimensions
passes_later : (bound from : ℕ) (diagram : Diagram) (decision : List Side) (dim : ℕ) → IsOrdered bound from diagram → Passes diagram decision dim → from ≤ dim
passes_later bound from Open decision dim h way = absurd way
passes_later bound from (Link cell) decision dim h way = absurd way
passes_later bound from (Con head kids) decision dim h way = absurd way
passes_later bound from (choice own left right) decision dim h (inl same) = omega (arith, h.0)
passes_later bound from (choice own left right) decision dim h (inr (inl way)) = omega (arith, h.0, passes_later bound (own + 1) left decision dim h.2 way.1)
passes_later bound from (choice own left right) decision dim h (inr (inr way)) = omega (arith, h.0, passes_later bound (own + 1) right decision dim h.3 way.1)

-- What a walk down a diagram keeps: the part and the whole are alike at the admitted decisions.
pub record IsAlike (region : Region) (part diagram : Diagram) : Type 0 where
  pub same : (decision : List Side) → Admits region decision → end_in decision part ≡ end_in decision diagram
  pub down : (dim : ℕ) → Branches region (Passes diagram) dim → Branches region (Passes part) dim
  pub up : (dim : ℕ) → Branches region (Passes part) dim → Branches region (Passes diagram) dim

module _ (region : Region) (part diagram : Diagram) (alike : IsAlike region part diagram) where
  module _ (leaf : IsLeaf part) where
    pub never_branches : IsLeastBranch region (Passes diagram) None
    never_branches dim b = let part_branches = alike.down dim b in IsLeaf-passes part part_branches.left dim leaf part_branches.left_passes

    pub one_end : (one other : List Side) → Admits region one → Admits region other → end_in one diagram ≡ end_in other diagram
    one_end one other a b = sym (alike.same one a) ∙ IsLeaf-same part one other leaf ∙ alike.same other b

  module _ (bound from dim : ℕ) (left right : Diagram) (is : part ≡ Choice dim left right) where
    same_choice : part ≡ choice dim left right
    same_choice = is ∙ diagram_here dim left right

    opened : (x : ℕ) → Branches region (Passes part) x → Branches region (PassesChoice dim (Passes left) (Passes right)) x
    opened x b = subst (λ (f : Diagram). Branches region (Passes f) x) same_choice b

    closed : (x : ℕ) → Branches region (PassesChoice dim (Passes left) (Passes right)) x → Branches region (Passes part) x
    closed x b = subst (λ (f : Diagram). Branches region (Passes f) x) (sym same_choice) b

    pub branches_at : IsOrdered bound from part → IsSideOf region dim None → IsLeastBranch region (Passes diagram) (Some dim)
    branches_at ordered either = (
      alike.up dim (closed dim (branches_here region dim (Passes left) (Passes right) either)),
      λ other b.
          (let inner = opened other (alike.down other b) in
          passes_later bound dim (choice dim left right) inner.left other (subst (IsOrdered bound dim) same_choice (diagram_behind bound from dim part left right is ordered).1) inner.left_passes),
    )

    pub alike_left : MustTake region dim Left → IsAlike region left diagram
    alike_left must = record {
      same = λ d admits. sym (end_in-choice d part dim left right Left is (must d admits)) ∙ alike.same d admits;
      down = λ x b. branches_left region dim (Passes left) (Passes right) must x (opened x (alike.down x b));
      up = λ x b. alike.up x (closed x (left_branches region dim (Passes left) (Passes right) must x b));
    }

    pub alike_right : MustTake region dim Right → IsAlike region right diagram
    alike_right must = record {
      same = λ d admits. sym (end_in-choice d part dim left right Right is (must d admits)) ∙ alike.same d admits;
      down = λ x b. branches_right region dim (Passes left) (Passes right) must x (opened x (alike.down x b));
      up = λ x b. alike.up x (closed x (right_branches region dim (Passes left) (Passes right) must x b));
    }
