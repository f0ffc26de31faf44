use Rattle.std.proofs.Common.{◌≡◌, ◌≢◌, ◌⊎◌, ℕ, suc, ◌+◌, ◌*◌, ◌<◌, ◌≤◌, List, [], ◌∷◌, ◌++◌, Option, Some, None, length, map, set, cond, get_or, slice_get, nat_eq, refl, ap, sym, subst, ◌∙◌, inl, inr, arith, length-set}
use Rattle.std.specs.List.{All, range_with_len}
use Rattle.std.proofs.lemmas.Bool.{cases_eq}
use Rattle.std.proofs.lemmas.List.{length-map, length_push, get_or-set_same, get_or-set_other, get_or_append_left, get_or_read}
use Rattle.std.proofs.lemmas.List.FromFn.{length-map-range_with_len, get_or-map-range_with_len}
use Rattle.std.proofs.lemmas.List.Elements.{All-nil, All-cons, All-set, All-from_get_or}
use Rattle.std.proofs.lemmas.Option.{slice_get-get_or}
use Rattle.vt_dec.specs.declared.side.Side.{Side}
use Rattle.vt_dec.specs.declared.side.Side.TheVariants.{Left, Right}
use Rattle.vt_type.specs.declared.head.Head.{Head}
use Rattle.vt_type.specs.Variational.{by_side}
use Rattle.vt_store.specs.Ends.{CellEnd, Free, Same, Made, IsAcyclic, mapped_end}
use Rattle.vt_store.specs.declared.diagram.Diagram.{Diagram, Open, Link, Con, Choice}
use Rattle.vt_store.specs.Diagrams.{choice, end_in, HasCells, IsDiagram, IsJoined, mapped}
use Rattle.vt_store.specs.Writes.{IsOf}
use Rattle.vt_store.specs.Stores.{Cells, end_of, ends_at, cell_count, IsStore}
use Rattle.vt_store.specs.Sharing.{IsNowhereOpen, AreAlike, diagram_of, MayStand, AreNames, AreRepresentatives, IsFoundFor, IsRepresented, AreRepresented, MayStandAt, IsSharedAt, IsShared}
use Rattle.vt_store.proofs.Cells.{All-head, All-tail}
use Rattle.vt_store.proofs.Finding.{get_or-push}
use Rattle.vt_store.proofs.Parting.{end_in-mapped}
use Rattle.vt_store.proofs.StandingIn.{IsAcyclic-shared, type_kept, Solves-shared, Solves-unshared}
use Rattle.vt_store.proofs.Writing.{le_or_lt}
use Rattle.vt_store.proofs.DiagramShapes.{diagram_here, same_sides}

-- Representatives of cells, and diagrams whose cells are replaced by them.

-- ---- a diagram whose cells are replaced twice

map-twice : (first next both : ℕ → ℕ) (count : ℕ) (kids : List ℕ) → ((cell : ℕ) → cell < count → both cell ≡ next (first cell)) → All (λ kid. kid < count) kids → map both kids ≡ map next (map first kids)
map-twice first next both count [] same h = refl
map-twice first next both count (kid ∷ kids) same h =
    let here = same kid (All-head (λ own. own < count) kid kids h) in
    let rest = map-twice first next both count kids same (All-tail (λ own. own < count) kid kids h) in
    λ i. here i ∷ rest i

mapped-twice : (first next both : ℕ → ℕ) (count : ℕ) (diagram : Diagram) → ((cell : ℕ) → cell < count → both cell ≡ next (first cell)) → HasCells count diagram
    → mapped both diagram ≡ mapped next (mapped first diagram)
mapped-twice first next both count Open same h = refl
mapped-twice first next both count (Link cell) same h = ap Link (same cell h)
mapped-twice first next both count (Con head kids) same h = ap (Con head) (map-twice first next both count kids same h.1)
mapped-twice first next both count (choice dim left right) same h =
    let l = mapped-twice first next both count left same h.0 in
    let r = mapped-twice first next both count right same h.1 in
    λ i. choice dim (l i) (r i)

-- ---- one more cell has its representative

-- the cell gives way to its representative
abbrev giving : ℕ → ℕ → ℕ → ℕ
giving cell name own = cond (nat_eq own cell) name own

giving-here : (cell name own : ℕ) → own ≡ cell → giving cell name own ≡ name
giving-here cell name own same = grind arith

giving-other : (cell name own : ℕ) → (own ≡ cell → ⊥) → giving cell name own ≡ own
giving-other cell name own differ = let apart : own ≢ cell = differ in grind arith

giving-name : (cell name : ℕ) → giving cell name name ≡ name
giving-name cell name = by (cases_eq name cell)
  where
    by : (name ≡ cell) ⊎ (name ≡ cell → ⊥) → giving cell name name ≡ name
    by (inl same) = giving-here cell name name same
    by (inr differ) = giving-other cell name name differ

module _ (diagrams : List Diagram) (names : List ℕ) (cell name : ℕ) (good : All (HasCells (length diagrams)) diagrams)
    (old : AreRepresentatives diagrams (suc cell) names) (within : cell < length diagrams) (found : IsFoundFor diagrams names cell name) where
  abbrev later : List ℕ
  later = set names cell name

  abbrev before : ℕ → ℕ
  before own = get_or names own 0

  abbrev after : ℕ → ℕ
  after own = get_or later own 0

  here : after cell ≡ name
  here = get_or-set_same names cell name 0 (omega (arith, old.sized))

  kept : (own : ℕ) → (own ≡ cell → ⊥) → after own ≡ before own
  kept own differ = let apart : own ≢ cell = differ in get_or-set_other names cell own name 0 apart

  -- no other cell has this one for its representative
  steady : (own : ℕ) → own < length diagrams → (own ≡ cell → ⊥) → before own ≡ cell → ⊥
  steady own inside differ same = by (le_or_lt (suc cell) own)
    where
      by : (suc cell ≤ own) ⊎ (own < suc cell) → ⊥
      by (inl le) = let far = old.behind own le inside in absurd (omega (arith, same))
      by (inr lt) = differ (sym (old.before own lt inside) ∙ same)

  moves : (own : ℕ) → own < length diagrams → after own ≡ giving cell name (before own)
  moves own inside = by (cases_eq own cell)
    where
      by : (own ≡ cell) ⊎ (own ≡ cell → ⊥) → after own ≡ giving cell name (before own)
      by (inl same) = ap after same ∙ here ∙ sym (giving-here cell name (before own) (ap before same ∙ old.before cell (omega arith) within))
      by (inr differ) = kept own differ ∙ sym (giving-other cell name (before own) (steady own inside differ))

  moved : (diagram : Diagram) → HasCells (length diagrams) diagram → mapped after diagram ≡ mapped (giving cell name) (mapped before diagram)
  moved diagram = mapped-twice before (giving cell name) after (length diagrams) diagram moves

  cells_at : (own : ℕ) → own < length diagrams → HasCells (length diagrams) (diagram_of diagrams own)
  cells_at own inside = good own Open inside

  -- what may stand for a cell may go on to, unless it gives way itself
  stays : (own other : ℕ) → own < length diagrams → other < length diagrams → giving cell name other ≡ other → MayStand diagrams names own other → MayStand diagrams later own other
  stays own other inside there same (inl itself) = inl itself
  stays own other inside there same (inr (inl link)) =
      let next : link.next < length diagrams = subst (HasCells (length diagrams)) link.is (cells_at own inside) in
      inr (inl (record { next = link.next; is = link.is; same = moves link.next next ∙ ap (giving cell name) link.same ∙ same }))
  stays own other inside there same (inr (inr alike)) =
      inr (inr (record {
        bound = alike.bound;
        same = moved (diagram_of diagrams own) (cells_at own inside) ∙ ap (mapped (giving cell name)) alike.same ∙ sym (moved (diagram_of diagrams other) (cells_at other there));
      }))

  within_at : (own : ℕ) → own < length diagrams → before own < length diagrams
  within_at own inside = old.cells own 0 (omega (arith, old.sized))

  pub AreRepresentatives-more : AreRepresentatives diagrams cell later
  AreRepresentatives-more = record {
    sized = length-set names cell name ∙ old.sized;
    before = λ own lt inside. kept own (λ same. omega arith) ∙ old.before own (omega arith) inside;
    behind = λ own le inside. by_place own le inside (cases_eq own cell);
    cells = All-set (λ own. own < length diagrams) names cell name found.within old.cells;
    stand = λ own inside. stands own inside (cases_eq own cell);
  }
    where
      by_place : (own : ℕ) → cell ≤ own → own < length diagrams → (own ≡ cell) ⊎ (own ≡ cell → ⊥) → cell ≤ after own
      by_place own le inside (inl same) = let is = ap after same ∙ here in let far = found.later in omega arith
      by_place own le inside (inr differ) = let apart : own ≢ cell = differ in let far = old.behind own (omega arith) inside in let is = kept own differ in omega arith

      stands : (own : ℕ) → own < length diagrams → (own ≡ cell) ⊎ (own ≡ cell → ⊥) → MayStand diagrams later own (after own)
      stands own inside (inl same) =
          subst (λ place. MayStand diagrams later place (after place)) (sym same)
          (subst (MayStand diagrams later cell) (sym here) (stays cell name within found.within (giving-name cell name) found.stands))
      stands own inside (inr differ) =
          subst (MayStand diagrams later own) (sym (kept own differ))
          (stays own (before own) inside (within_at own inside) (giving-other cell name (before own) (steady own inside differ)) (old.stand own inside))

-- each cell stands for itself
pub AreRepresentatives-itself : (diagrams : List Diagram) (names : List ℕ) → names ≡ map (λ cell. cell) (range_with_len 0 (length diagrams)) → AreRepresentatives diagrams (length diagrams) names
AreRepresentatives-itself diagrams names are = record {
  sized = sized;
  before = λ cell lt inside. itself cell inside;
  behind = λ cell le inside. absurd (omega arith);
  cells = All-from_get_or (λ name. name < length diagrams) names 0 (λ cell within. (let same = itself cell (omega (arith, sized)) in omega (arith, sized)));
  stand = λ cell inside. inl (itself cell inside);
}
  where
    sized : length names ≡ length diagrams
    sized = ap length are ∙ length-map-range_with_len (λ cell. cell) 0 (length diagrams)

    itself : (cell : ℕ) → cell < length diagrams → get_or names cell 0 ≡ cell
    itself cell inside = ap (λ own. get_or own cell 0) are ∙ get_or-map-range_with_len (λ own. own) 0 (length diagrams) cell cell 0 inside (omega arith)

pub AreNames-representatives : (diagrams : List Diagram) (names : List ℕ) → AreRepresentatives diagrams 0 names → AreNames diagrams names
AreNames-representatives diagrams names are = record { sized = are.sized; cells = are.cells; stand = are.stand }

-- ---- a diagram whose cells are replaced

names_within : (names : List ℕ) (count : ℕ) (kids : List ℕ) → All (λ name. name < count) names → All (λ kid. kid < length names) kids → All (λ kid. kid < count) (map (λ own. get_or names own 0) kids)
names_within names count [] cells h = All-nil (λ kid. kid < count)
names_within names count (kid ∷ kids) cells h =
    All-cons (λ own. own < count) (get_or names kid 0) (map (λ own. get_or names own 0) kids) (cells kid 0 (All-head (λ own. own < length names) kid kids h))
    (names_within names count kids cells (All-tail (λ own. own < length names) kid kids h))

pub IsRepresented-con : (names : List ℕ) (head : Head) (kids own : List ℕ) → own ≡ map (λ cell. get_or names cell 0) kids → IsRepresented names (Con head kids) (Con head own)
IsRepresented-con names head kids own same = record {
  ends = λ decision. ap (Made head) same;
  ordered = λ bound first h. tt;
  cells = λ count h cells.
      (ap length same ∙ length-map kids (λ cell. get_or names cell 0) ∙ h.0, subst (All (λ kid. kid < count)) (sym same) (names_within names count kids cells h.1));
}

pub IsRepresented-choice : (names : List ℕ) (dim : ℕ) (diagram left right lefts rights made : Diagram) → diagram ≡ Choice dim left right → IsJoined dim lefts rights made
    → IsRepresented names left lefts → IsRepresented names right rights → IsRepresented names diagram made
IsRepresented-choice names dim diagram left right lefts rights made is joined l r =
    subst (λ own. IsRepresented names own made) (sym (is ∙ diagram_here dim left right)) (by joined)
  where
    name : ℕ → ℕ
    name cell = get_or names cell 0

    sides : (side : Option Side) (a b x y : CellEnd) → a ≡ mapped_end name x → b ≡ mapped_end name y → by_side side a b ≡ mapped_end name (by_side side x y)
    sides (Some Left) a b x y e f = e
    sides (Some Right) a b x y e f = f
    sides None a b x y e f = e

    by : IsJoined dim lefts rights made → IsRepresented names (choice dim left right) made
    by (inl whole) = subst (IsRepresented names (choice dim left right)) (sym whole) (record {
      ends = λ decision. sides (slice_get decision dim) _ _ (end_in decision left) (end_in decision right) (l.ends decision) (r.ends decision);
      ordered = λ bound first h. (h.0, h.1, l.ordered bound (dim + 1) h.2, r.ordered bound (dim + 1) h.3);
      cells = λ count h cells. (l.cells count h.0 cells, r.cells count h.1 cells);
    })
    by (inr (same, leaf)) = subst (IsRepresented names (choice dim left right)) (sym same) (record {
      ends = λ decision.
          sym (same_sides (slice_get decision dim) (end_in decision lefts))
          ∙ sides (slice_get decision dim) (end_in decision lefts) (end_in decision lefts) (end_in decision left) (end_in decision right) (l.ends decision)
          (ap (end_in decision) leaf.0 ∙ r.ends decision);
      ordered = λ bound first h. leaf.1 first bound;
      cells = λ count h cells. l.cells count h.0 cells;
    })

-- ---- the diagrams of all cells are replaced

-- one more diagram has its copy, whatever there is between the two
pub copies-more : (R : ℕ → Diagram → Diagram → Type 0) (diagrams copies later : List Diagram) (place : ℕ) (from copy : Diagram) → place < length diagrams → from ≡ get_or diagrams place from → later ≡ copies ++ copy ∷ []
    → length copies ≡ place → ((cell : ℕ) → cell < place → R cell (diagram_of diagrams cell) (diagram_of copies cell)) → R place from copy
    → (length later ≡ place + 1) × ((cell : ℕ) → cell < place + 1 → R cell (diagram_of diagrams cell) (diagram_of later cell))
copies-more R diagrams copies later place from copy within read pushed sized each one =
    (ap length pushed ∙ length_push copies copy ∙ ap (λ own. own + 1) sized, λ cell lt. by cell (le_or_lt place cell) lt)
  where
    by : (cell : ℕ) → (place ≤ cell) ⊎ (cell < place) → cell < place + 1 → R cell (diagram_of diagrams cell) (diagram_of later cell)
    by cell (inr lt) below =
        subst (R cell (diagram_of diagrams cell)) (sym (ap (λ own. get_or own cell Open) pushed ∙ get_or_append_left copies (copy ∷ []) Open cell (omega (arith, sized)))) (each cell lt)
    by cell (inl le) below =
        let here : place ≡ cell = omega arith in
        let last : cell ≡ length copies = omega (arith, sized) in
        let end : diagram_of later cell ≡ copy = ap (λ own. get_or own cell Open) pushed ∙ ap (λ own. get_or (copies ++ copy ∷ []) own Open) last ∙ get_or-push copies copy Open in
        let start : diagram_of diagrams cell ≡ from = ap (diagram_of diagrams) (last ∙ sized) ∙ sym (get_or_read diagrams place from within read Open) in
        subst (R cell (diagram_of diagrams cell)) (sym end) (subst (λ own. R cell own copy) (sym start) (subst (λ own. R own from copy) here one))

-- ---- two diagrams are compared

pub AreAlike-choice : (names : List ℕ) (dim own : ℕ) (one other left right lefts rights : Diagram) → one ≡ Choice dim left right → other ≡ Choice own lefts rights → dim ≡ own
    → AreAlike names left lefts → AreAlike names right rights → AreAlike names one other
AreAlike-choice names dim own one other left right lefts rights is also dims l r =
    subst (λ (diagram : Diagram). AreAlike names diagram other) (sym (is ∙ diagram_here dim left right))
    (subst (AreAlike names (choice dim left right)) (sym (also ∙ diagram_here own lefts rights))
    (record { bound = (l.bound, r.bound); same = λ i. choice (dims i) (l.same i) (r.same i) }))

-- ---- the store of such diagrams

-- the end of a cell is that of its diagram
pub end_here : (store : Cells) (decision : List Side) (cell : ℕ) → cell < cell_count store → ends_at store decision cell ≡ end_in decision (diagram_of store.cells cell)
end_here store decision cell within = ap (end_of decision) (slice_get-get_or store.cells cell Open within)

bound_end : (decision : List Side) (diagram : Diagram) → IsNowhereOpen diagram → end_in decision diagram ≡ Free → ⊥
bound_end decision Open h free = h
bound_end decision (Link cell) h free = cc
bound_end decision (Con head kids) h free = cc
bound_end decision (choice dim left right) h free = by (slice_get decision dim) (bound_end decision left h.0) (bound_end decision right h.1) free
  where
    by : (side : Option Side) → (end_in decision left ≡ Free → ⊥) → (end_in decision right ≡ Free → ⊥) → by_side side (end_in decision left) (end_in decision right) ≡ Free → ⊥
    by (Some Left) l r = l
    by (Some Right) l r = r
    by None l r = l

module _ (N : ℕ) (whole new : Cells) (names : List ℕ) (good : IsStore N whole) (are : AreNames whole.cells names) (made : AreRepresented names whole.cells new.cells)
    (space : new.space ≡ whole.space) where
  abbrev name : ℕ → ℕ
  name cell = get_or names cell 0

  within_whole : (cell : ℕ) → cell < cell_count whole → name cell < cell_count whole
  within_whole cell within = are.cells cell 0 (omega (arith, are.sized))

  stands_at : (decision : List Side) (cell : ℕ) → cell < cell_count whole → MayStand whole.cells names cell (name cell) → MayStandAt (ends_at whole decision) name cell
  stands_at decision cell within (inl itself) = inr (inl itself, ap (λ own. mapped_end name (ends_at whole decision own)) itself)
  stands_at decision cell within (inr (inl link)) = inl (link.next, end_here whole decision cell within ∙ ap (end_in decision) link.is, link.same)
  stands_at decision cell within (inr (inr alike)) = inr (
    inr (λ free. bound_end decision (diagram_of whole.cells cell) alike.bound (sym (end_here whole decision cell within) ∙ free)),
    ap (mapped_end name) (end_here whole decision (name cell) (within_whole cell within))
        ∙ sym (end_in-mapped name decision (diagram_of whole.cells (name cell)))
        ∙ ap (end_in decision) (sym alike.same)
        ∙ end_in-mapped name decision (diagram_of whole.cells cell)
        ∙ ap (mapped_end name) (sym (end_here whole decision cell within)),
  )

  pub IsSharedAt-represented : (decision : List Side) → IsSharedAt (cell_count whole) (ends_at whole decision) (ends_at new decision) name
  IsSharedAt-represented decision = record {
    within = within_whole;
    ends = λ cell within.
        end_here new decision cell (omega (arith, made.sized))
        ∙ (made.each cell within).ends decision
        ∙ ap (mapped_end name) (sym (end_here whole decision cell within));
    stand = λ cell within. stands_at decision cell within (are.stand cell within);
  }

  pub IsStore-represented : IsStore N new
  IsStore-represented = record {
    acyclic = λ decision of.
        subst (λ n. IsAcyclic n (ends_at new decision)) (sym made.sized)
        (IsAcyclic-shared (cell_count whole) (ends_at whole decision) (ends_at new decision) name (IsSharedAt-represented decision) (good.acyclic decision (subst (λ s. IsOf N s decision) space of)));
    diagrams = All-from_get_or (IsDiagram N (cell_count new)) new.cells Open (λ cell within.
        (let inside : cell < cell_count whole = omega (arith, made.sized) in
        let old = good.diagrams cell Open inside in
        let one = made.each cell inside in
        record {
          ordered = one.ordered (64 * N) 0 old.ordered;
          cells = one.cells (cell_count new) (subst (λ n. HasCells n (diagram_of whole.cells cell)) (sym are.sized) old.cells) (subst (λ n. All (λ own. own < n) names) (sym made.sized) are.cells);
        }));
  }

  -- such a store is one whose cells stand for those of the first
  pub IsShared-represented : IsShared N whole (record { store = new; representatives = names })
  IsShared-represented = record {
    space = space;
    count = made.sized;
    sized = are.sized;
    cells = are.cells;
    solutions = λ decision of s. (
      λ solves. Solves-shared (cell_count whole) (ends_at whole decision) (ends_at new decision) name (IsSharedAt-represented decision) s solves (good.acyclic decision of),
      λ solves. Solves-unshared (cell_count whole) (ends_at whole decision) (ends_at new decision) name (IsSharedAt-represented decision) s solves (good.acyclic decision of),
    );
    same = λ decision of s solves. type_kept (cell_count whole) (ends_at whole decision) (ends_at new decision) name (IsSharedAt-represented decision) s solves (good.acyclic decision of);
  }
