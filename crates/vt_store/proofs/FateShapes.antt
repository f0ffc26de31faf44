use Rattle.std.proofs.Common.{◌≡◌, ◌⊎◌, ℕ, suc, ◌+◌, ◌*◌, ◌<◌, ◌≤◌, List, length, slice_get, Option, Some, None, refl, ap, sym, subst, ◌∙◌, inl, inr, arith}
use Rattle.vt_dec.specs.declared.side.Side.{Side}
use Rattle.vt_dec.specs.declared.side.Side.TheVariants.{Left, Right}
use Rattle.vt_dec.specs.declared.fate.Fate.{Fate}
use Rattle.vt_type.specs.Variational.{by_side}
use Rattle.vt_store.specs.declared.fates.Fates.{Fates, All, Choice}
use Rattle.vt_store.specs.declared.fates.Fates.TheBlock as block
use Rattle.std.proofs.lemmas.Option.{same_Some}
use Rattle.vt_dec.specs.Decisions.{Region, Admits, MustTake, IsSideOf, IsKept, IsNextDecided}
use Rattle.vt_store.specs.Writes.{IsBefore, IsNextAt, IsGap, IsWrite}
use Rattle.vt_store.proofs.Writing.{write_all, write_both, write_left, write_right}
use Rattle.vt_store.specs.Fates.{AreJoined, fates_choice, fate_in, AreOrdered, AreBehind, PassesFates}
use Rattle.vt_store.specs.Branches.{PassesChoice, Branches, IsLeastBranch}
use Rattle.vt_store.proofs.Branching.{branches_left, branches_right, left_branches, right_branches, branches_here}

-- The choice that the code makes and matches is that of the definitions.
pub fates_here : (dim : ℕ) (left right : Fates) → Choice dim left right ≡ fates_choice dim left right
unfolding block.shape-the_row-Fates-0 block.hidden-the_row-Fates-0 denote.Hole.Carrier.hidden
fates_here dim left right = refl

pub fates_is : (dim : ℕ) (one left other right : Fates) → one ≡ left → other ≡ right → Choice dim one other ≡ fates_choice dim left right
fates_is dim one left other right e f = rw (e, f) (fates_here dim left right)

-- the parts of an ordered choice
pub fates_parts : (bound from dim : ℕ) (fates left right : Fates) → fates ≡ Choice dim left right → AreOrdered bound from fates
    → (from ≤ dim) × (dim < bound) × AreOrdered bound (dim + 1) left × AreOrdered bound (dim + 1) right
fates_parts bound from dim fates left right is h = subst (AreOrdered bound from) (is ∙ fates_here dim left right) h

-- an earlier dimension will do as the first
pub AreOrdered-earlier : (bound late early : ℕ) (fates : Fates) → early ≤ late → AreOrdered bound late fates → AreOrdered bound early fates
AreOrdered-earlier bound late early (All fate) le h = tt
AreOrdered-earlier bound late early (fates_choice dim left right) le h = (omega (arith, h.0), h.1, h.2, h.3)

-- the parts of an ordered choice, whatever dimension is the first
pub fates_below : (bound dim : ℕ) (fates left right : Fates) → fates ≡ Choice dim left right → AreOrdered bound 0 fates → (dim < bound) × AreOrdered bound 0 left × AreOrdered bound 0 right
fates_below bound dim fates left right is h =
    let parts = fates_parts bound 0 dim fates left right is h in
    (parts.1, AreOrdered-earlier bound (dim + 1) 0 left (omega arith) parts.2, AreOrdered-earlier bound (dim + 1) 0 right (omega arith) parts.3)

-- the fate at a choice, where the side is known
pub fate_in-choice : (decision : List Side) (fates : Fates) (dim : ℕ) (left right : Fates) (side : Side) → fates ≡ Choice dim left right → slice_get decision dim ≡ Some side
    → fate_in decision fates ≡ by_side (Some side) (fate_in decision left) (fate_in decision right)
fate_in-choice decision fates dim left right side is taken =
    ap (fate_in decision) (is ∙ fates_here dim left right) ∙ ap (λ s. by_side s (fate_in decision left) (fate_in decision right)) taken

-- what is behind a dimension, or is no choice, is ordered from any place before
pub AreBehind-from : (bound : ℕ) (below : Option ℕ) (from : ℕ) (fates : Fates) → IsBefore from below ⊎ (below ≡ Some from) → AreBehind bound below fates → AreOrdered bound from fates
AreBehind-from bound None from fates start h = h from
AreBehind-from bound (Some dim) from fates (inl lt) h = AreOrdered-earlier bound dim from fates (omega arith) h.1
AreBehind-from bound (Some dim) from fates (inr same) h = subst (λ d. AreOrdered bound d fates) (same_Some dim from same) h.1

-- one more choice before what is behind
module _ (bound : ℕ) (region : Region) (from : ℕ) (below : Option ℕ) (dim next : ℕ) (side : Side) (old sub fates : Fates)
    (long : length region.sides ≡ bound) (one_more : next ≡ dim + 1) (found : IsNextAt region from below dim side)
    (start : IsBefore next below ⊎ (below ≡ Some next)) (behind : AreBehind bound below old) (ordered : AreOrdered bound next sub) where
  kept_ordered : AreOrdered bound (dim + 1) old
  kept_ordered = subst (λ d. AreOrdered bound d old) one_more (AreBehind-from bound below next old start behind)

  sub_ordered : AreOrdered bound (dim + 1) sub
  sub_ordered = subst (λ d. AreOrdered bound d sub) one_more ordered

  pub guard_left : fates ≡ fates_choice dim sub old → AreOrdered bound from fates
  guard_left is = subst (AreOrdered bound from) (sym is) (found.later, omega (arith, found.within), sub_ordered, kept_ordered)

  pub guard_right : fates ≡ fates_choice dim old sub → AreOrdered bound from fates
  guard_right is = subst (AreOrdered bound from) (sym is) (found.later, omega (arith, found.within), kept_ordered, sub_ordered)

-- the fates of a choice, at each decision
pub fate_in-made : (dim : ℕ) (left right fates : Fates) → fates ≡ fates_choice dim left right
    → ◌≡◌ {A = List Side → Fate} (λ decision. by_side (slice_get decision dim) (fate_in decision left) (fate_in decision right)) (λ decision. fate_in decision fates)
fate_in-made dim left right fates is = λ i decision. fate_in decision (sym is i)

same_sides : (side : Option Side) (x : Fate) → by_side side x x ≡ x
same_sides (Some Left) x = refl
same_sides (Some Right) x = refl
same_sides None x = refl

-- likewise where the two sides may be joined
fate_in-joined : (dim : ℕ) (left right fates : Fates) → AreJoined dim left right fates
    → ◌≡◌ {A = List Side → Fate} (λ decision. by_side (slice_get decision dim) (fate_in decision left) (fate_in decision right)) (λ decision. fate_in decision fates)
fate_in-joined dim left right fates (inl made) = fate_in-made dim left right fates made
fate_in-joined dim left right fates (inr (same, leaf)) =
    λ i decision. (ap (λ (own : Fates). by_side (slice_get decision dim) (fate_in decision left) (fate_in decision own)) (sym leaf.0) ∙ same_sides (slice_get decision dim) (fate_in decision left) ∙ ap (fate_in decision) (sym same)) i

-- A choice of which one side or both are written.
module _ (N : ℕ) (region : Region) (dim next from : ℕ) (change : Fate → Fate) (fates left right : Fates)
    (is : fates ≡ Choice dim left right) (one_more : next ≡ dim + 1) (kept : IsKept region) (ordered : AreOrdered (64 * N) from fates) where
  abbrev pub IsTurned : Fates → Type 0
  IsTurned written = AreBehind (64 * N) (Some dim) written × ((stop : ℕ) → IsGap region stop dim → IsWrite N region stop change (λ d. fate_in d fates) (λ d. fate_in d written))

  parts : (from ≤ dim) × (dim < 64 * N) × AreOrdered (64 * N) (dim + 1) left × AreOrdered (64 * N) (dim + 1) right
  parts = fates_parts (64 * N) from dim fates left right is ordered

  pub left_ordered : AreOrdered (64 * N) next left
  left_ordered = subst (λ n. AreOrdered (64 * N) n left) (sym one_more) parts.2

  pub right_ordered : AreOrdered (64 * N) next right
  right_ordered = subst (λ n. AreOrdered (64 * N) n right) (sym one_more) parts.3

  abbrev sides_of : Fates → Fates → List Side → Fate
  sides_of one other d = by_side (slice_get d dim) (fate_in d one) (fate_in d other)

  joined_ordered : (lefts rights written : Fates) → AreJoined dim lefts rights written → AreOrdered (64 * N) next lefts → AreOrdered (64 * N) next rights → AreOrdered (64 * N) dim written
  joined_ordered lefts rights written (inl made) one other =
      subst (AreOrdered (64 * N) dim) (sym made) (omega arith, parts.1, subst (λ n. AreOrdered (64 * N) n lefts) one_more one, subst (λ n. AreOrdered (64 * N) n rights) one_more other)
  joined_ordered lefts rights written (inr (same, leaf)) one other = subst (AreOrdered (64 * N) dim) (sym same) (leaf.1 dim (64 * N))

  turned : (lefts rights written : Fates) → AreJoined dim lefts rights written → AreOrdered (64 * N) next lefts → AreOrdered (64 * N) next rights
      → ((stop : ℕ) → IsGap region stop dim → IsWrite N region stop change (sides_of left right) (sides_of lefts rights)) → IsTurned written
  turned lefts rights written made one other writes = (
    (parts.1, joined_ordered lefts rights written made one other),
    λ stop gap. subst (IsWrite N region stop change (λ d. fate_in d fates)) (fate_in-joined dim lefts rights written made)
        (subst (λ (old : List Side → Fate). IsWrite N region stop change old (sides_of lefts rights)) (fate_in-made dim left right fates (is ∙ fates_here dim left right)) (writes stop gap)),
  )

  abbrev Writes : Fates → Fates → Type 0
  Writes old new = AreOrdered (64 * N) next new × IsWrite N region next change (λ d. fate_in d old) (λ d. fate_in d new)

  at_next : (old new : Fates) → Writes old new → IsWrite N region (suc dim) change (λ d. fate_in d old) (λ d. fate_in d new)
  at_next old new w = subst (λ n. IsWrite N region n change (λ d. fate_in d old) (λ d. fate_in d new)) (omega arith) w.1

  pub turned_both : (lefts rights written : Fates) → (dim < 64 * N → IsSideOf region dim None) → Writes left lefts → Writes right rights → AreJoined dim lefts rights written → IsTurned written
  turned_both lefts rights written either one other made =
      turned lefts rights written made one.0 other.0
      (λ stop gap. write_both N region stop change dim gap (either parts.1) parts.1 _ _ _ _ (at_next left lefts one) (at_next right rights other))

  pub turned_left : (lefts copied written : Fates) → (dim < 64 * N → IsSideOf region dim (Some Left)) → Writes left lefts → copied ≡ right → AreJoined dim lefts copied written → IsTurned written
  turned_left lefts copied written must one same made =
      turned lefts right written (subst (λ (own : Fates). AreJoined dim lefts own written) same made) one.0 right_ordered
      (λ stop gap. write_left N region stop change dim gap kept parts.1 _ _ (must parts.1) _ (at_next left lefts one))

  pub turned_right : (rights copied written : Fates) → (dim < 64 * N → IsSideOf region dim (Some Right)) → Writes right rights → copied ≡ left → AreJoined dim copied rights written → IsTurned written
  turned_right rights copied written must other same made =
      turned left rights written (subst (λ (own : Fates). AreJoined dim own rights written) same made) left_ordered other.0
      (λ stop gap. write_right N region stop change dim gap kept parts.1 _ _ (must parts.1) _ (at_next right rights other))

-- one fate, which is written where nothing more is decided
pub written_leaf : (N : ℕ) (region : Region) (from : ℕ) (change : Fate → Fate) (fates : Fates) (old new : Fate) → fates ≡ All old → new ≡ change old
    → length region.sides ≡ 64 * N → IsNextDecided region from None → IsWrite N region from change (λ d. fate_in d fates) (λ d. fate_in d (All new))
written_leaf N region from change fates old new is changed long none =
    let constant = λ (fate : Fate) (d : List Side). fate in
    subst (λ (before : List Side → Fate). IsWrite N region from change before (constant new)) (λ i d. fate_in d (sym is i))
    (subst (λ (fate : Fate). IsWrite N region from change (constant old) (constant fate)) (sym changed) (write_all N region from change long none (constant old)))

-- an ordered choice is behind whatever comes before its dimension
pub fates_behind : (bound from dim : ℕ) (fates left right : Fates) → fates ≡ Choice dim left right → AreOrdered bound from fates → AreBehind bound (Some dim) fates
fates_behind bound from dim fates left right is h =
    let parts = fates_parts bound from dim fates left right is h in
    (parts.1, subst (AreOrdered bound dim) (sym (is ∙ fates_here dim left right)) (omega arith, parts.1, parts.2, parts.3))

-- ---- where fates branch

-- all choices are on later dimensions
passes_later : (bound from : ℕ) (fates : Fates) (decision : List Side) (dim : ℕ) → AreOrdered bound from fates → PassesFates fates decision dim → from ≤ dim
passes_later bound from (All fate) decision dim h way = absurd way
passes_later bound from (fates_choice own left right) decision dim h (inl same) = omega (arith, h.0)
passes_later bound from (fates_choice own left right) decision dim h (inr (inl way)) = omega (arith, h.0, passes_later bound (own + 1) left decision dim h.2 way.1)
passes_later bound from (fates_choice own left right) decision dim h (inr (inr way)) = omega (arith, h.0, passes_later bound (own + 1) right decision dim h.3 way.1)

-- What a walk down a diagram keeps: the part and the whole are alike at the admitted decisions.
pub record IsAlike (region : Region) (part fates : Fates) : Type 0 where
  pub same : (decision : List Side) → Admits region decision → fate_in decision part ≡ fate_in decision fates
  pub down : (dim : ℕ) → Branches region (PassesFates fates) dim → Branches region (PassesFates part) dim
  pub up : (dim : ℕ) → Branches region (PassesFates part) dim → Branches region (PassesFates fates) dim

module _ (region : Region) (part fates : Fates) (alike : IsAlike region part fates) where
  module _ (fate : Fate) (is : part ≡ All fate) where
    pub never_branches : IsLeastBranch region (PassesFates fates) None
    never_branches dim b = (subst (λ (f : Fates). Branches region (PassesFates f) dim) is (alike.down dim b)).left_passes

  module _ (bound from dim : ℕ) (left right : Fates) (is : part ≡ Choice dim left right) where
    same_choice : part ≡ fates_choice dim left right
    same_choice = is ∙ fates_here dim left right

    opened : (x : ℕ) → Branches region (PassesFates part) x → Branches region (PassesChoice dim (PassesFates left) (PassesFates right)) x
    opened x b = subst (λ (f : Fates). Branches region (PassesFates f) x) same_choice b

    closed : (x : ℕ) → Branches region (PassesChoice dim (PassesFates left) (PassesFates right)) x → Branches region (PassesFates part) x
    closed x b = subst (λ (f : Fates). Branches region (PassesFates f) x) (sym same_choice) b

    pub branches_at : AreOrdered bound from part → IsSideOf region dim None → IsLeastBranch region (PassesFates fates) (Some dim)
    branches_at ordered either = (
      alike.up dim (closed dim (branches_here region dim (PassesFates left) (PassesFates right) either)),
      λ other b.
          (let inner = opened other (alike.down other b) in
          passes_later bound dim (fates_choice dim left right) inner.left other (subst (AreOrdered bound dim) same_choice (fates_behind bound from dim part left right is ordered).1) inner.left_passes),
    )

    pub alike_left : MustTake region dim Left → IsAlike region left fates
    alike_left must = record {
      same = λ d admits. sym (fate_in-choice d part dim left right Left is (must d admits)) ∙ alike.same d admits;
      down = λ x b. branches_left region dim (PassesFates left) (PassesFates right) must x (opened x (alike.down x b));
      up = λ x b. alike.up x (closed x (left_branches region dim (PassesFates left) (PassesFates right) must x b));
    }

    pub alike_right : MustTake region dim Right → IsAlike region right fates
    alike_right must = record {
      same = λ d admits. sym (fate_in-choice d part dim left right Right is (must d admits)) ∙ alike.same d admits;
      down = λ x b. branches_right region dim (PassesFates left) (PassesFates right) must x (opened x (alike.down x b));
      up = λ x b. alike.up x (closed x (right_branches region dim (PassesFates left) (PassesFates right) must x b));
    }
