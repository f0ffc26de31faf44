use Rattle.std.proofs.Common.{◌≡◌, ◌⊎◌, ℕ, ◌*◌, ◌<◌, Bool, true, false, List, Contains, length, map, set, get_or, ap, sym, subst, ◌∙◌, inl, inr, arith, length-set}
use Rattle.std.specs.List.{All}
use Rattle.std.proofs.lemmas.Bool.{cases_lt}
use Rattle.std.proofs.lemmas.List.{length-map, set-get_or}
use Rattle.std.proofs.lemmas.List.Elements.{All-map, All-contains, All-from_get_or}
use Rattle.std.proofs.lemmas.Option.{slice_get-get_or, get_or_from_slice_get}
use Rattle.vt_dec.specs.declared.side.Side.{Side}
use Rattle.vt_dec.specs.declared.side.Side.TheVariants.{Left, Right}
use Rattle.vt_dec.specs.declared.side.Space.TheVariants.{All as AllOf}
use Rattle.vt_dec.specs.Decisions.{IsIn, Takes}
use Rattle.vt_dec.proofs.Slices.{slice_get-set_same}
use Rattle.vt_type.specs.declared.plain.Plain.{Plain}
use Rattle.vt_store.specs.Ends.{CellEnd, Free, EachCell, IsAcyclic, AreArities, mapped_end}
use Rattle.vt_store.specs.Solutions.{Solves}
use Rattle.vt_store.specs.declared.diagram.Diagram.{Diagram, Open}
use Rattle.vt_store.specs.Diagrams.{end_in, HasCells, IsDiagram}
use Rattle.vt_store.specs.Writes.{IsOf}
use Rattle.vt_store.specs.Stores.{Cells, ends_at, cell_count, IsStore}
use Rattle.vt_store.specs.Sharing.{diagram_of, AreRepresented}
use Rattle.vt_store.specs.Narrowing.{HasTypes, IsNarrowed, on_side, IsWhether, IsReached, IsOnSides, IsCut, AreOnSides, AreOpenAlone, IsPairedAt, ArePaired}
use Rattle.vt_store.proofs.Cells.{All-each}
use Rattle.vt_store.proofs.Widening.{types-same}
use Rattle.vt_store.proofs.Representing.{end_here}
use Rattle.vt_store.proofs.OneSided.{IsOneSided, IsAcyclic-one_sided, carried-one_sided, brought-one_sided}
use Rattle.vt_store.proofs.SideLemmas.{end_in-on_side, EachCell-named_on, IsOrdered-on_side, HasCells-on_side}
use Rattle.vt_store.proofs.StoreSteps.{IsStore-arities}

-- A store in which one dimension was looked at, and the types that its cells take.

-- ---- one decision

-- the end of a cell in the cut: what it is here, what it is there, or open
data IsCutAt (Here There : Type 0) (end other cut : CellEnd) : Type 0 where
  is_here : Here → cut ≡ end → IsCutAt Here There end other cut
  is_there : (Here → ⊥) → There → cut ≡ other → IsCutAt Here There end other cut
  is_apart : (Here → ⊥) → (There → ⊥) → cut ≡ Free → IsCutAt Here There end other cut

-- the name of a cell: itself, or another one where both are open
abbrev IsNamedAt : (ℕ → CellEnd) → (ℕ → ℕ) → ℕ → Type 0
IsNamedAt cut name cell = (name cell ≡ cell) ⊎ ((cut cell ≡ Free) × (cut (name cell) ≡ Free))

module _ (n : ℕ) (e other cut later : ℕ → CellEnd) (name : ℕ → ℕ) (Here There : ℕ → Type 0)
    (inside : (cell : ℕ) → Here cell → cell < n) (there_inside : (cell : ℕ) → There cell → cell < n) (within : (cell : ℕ) → cell < n → name cell < n)
    (cuts : (cell : ℕ) → cell < n → IsCutAt (Here cell) (There cell) (e cell) (other cell) (cut cell))
    (ends : (cell : ℕ) → cell < n → later cell ≡ mapped_end name (cut cell)) (named : (cell : ℕ) → cell < n → IsNamedAt cut name cell) where
  named_end : (cell : ℕ) → cell < n → later (name cell) ≡ mapped_end name (cut cell)
  named_end cell below = by (named cell below)
    where
      by : IsNamedAt cut name cell → later (name cell) ≡ mapped_end name (cut cell)
      by (inl itself) = ap later itself ∙ ends cell below
      by (inr (free, name_free)) = ends (name cell) (within cell below) ∙ ap (mapped_end name) (name_free ∙ sym free)

  decided_here : (cell : ℕ) → Here cell ⊎ (Here cell → ⊥)
  decided_here cell = elim (cases_lt cell n) [ inl below ↦ by (cuts cell below) | inr le ↦ inr (λ has. (let below = inside cell has in omega arith)) ]
    where
      by : IsCutAt (Here cell) (There cell) (e cell) (other cell) (cut cell) → Here cell ⊎ (Here cell → ⊥)
      by (is_here has is) = inl has
      by (is_there lacks has is) = inr lacks
      by (is_apart lacks apart is) = inr lacks

  cut_here : (cell : ℕ) → Here cell → cut cell ≡ e cell
  cut_here cell own = by (cuts cell (inside cell own))
    where
      by : IsCutAt (Here cell) (There cell) (e cell) (other cell) (cut cell) → cut cell ≡ e cell
      by (is_here has is) = is
      by (is_there lacks has is) = absurd (lacks own)
      by (is_apart lacks apart is) = absurd (lacks own)

  cut_there : (cell : ℕ) → There cell → (Here cell → ⊥) → cut cell ≡ other cell
  cut_there cell own differ = by (cuts cell (there_inside cell own))
    where
      by : IsCutAt (Here cell) (There cell) (e cell) (other cell) (cut cell) → cut cell ≡ other cell
      by (is_here has is) = absurd (differ has)
      by (is_there lacks has is) = is
      by (is_apart lacks apart is) = absurd (apart own)

  rest_of : (cell : ℕ) → cell < n → (later cell ≡ Free) ⊎ ((name cell ≡ cell) × (Here cell ⊎ There cell))
  rest_of cell below = by (named cell below) (cuts cell below)
    where
      by : IsNamedAt cut name cell → IsCutAt (Here cell) (There cell) (e cell) (other cell) (cut cell) → (later cell ≡ Free) ⊎ ((name cell ≡ cell) × (Here cell ⊎ There cell))
      by (inr both) at = inl (ends cell below ∙ ap (mapped_end name) both.0)
      by (inl itself) (is_here has is) = inr (itself, inl has)
      by (inl itself) (is_there lacks has is) = inr (itself, inr has)
      by (inl itself) (is_apart lacks apart is) = inl (ends cell below ∙ ap (mapped_end name) is)

  IsOneSided-cut : ((cell : ℕ) → Here cell → EachCell Here (e cell)) → ((cell : ℕ) → There cell → EachCell There (other cell)) → ((one two : ℕ) → Here one → Here two → name one ≡ name two → one ≡ two)
      → IsOneSided n e other later name Here There
  IsOneSided-cut closed there_closed different = record {
    inside = inside;
    within = within;
    decided = decided_here;
    closed = closed;
    there_closed = there_closed;
    different = different;
    here = λ cell has. named_end cell (inside cell has) ∙ ap (mapped_end name) (cut_here cell has);
    there = λ cell has lacks. named_end cell (there_inside cell has) ∙ ap (mapped_end name) (cut_there cell has lacks);
    rest = rest_of;
  }

-- ---- the diagram of a cell in the cut

-- a decision that takes a side is the one that has it
set-taken : (decision : List Side) (dim : ℕ) (side : Side) → Takes decision dim side → set decision dim side ≡ decision
set-taken decision dim side takes = ap (set decision dim) (sym (get_or_from_slice_get decision dim side side takes)) ∙ set-get_or decision dim side

module _ (whole : Cells) (decision : List Side) (dim : ℕ) (left right : List ℕ) (cell : ℕ) (to : Diagram) (within : dim < length decision) (below : cell < cell_count whole)
    (is : IsCut dim left right cell (diagram_of whole.cells cell) to) where
  end_whole : to ≡ diagram_of whole.cells cell → end_in decision to ≡ ends_at whole decision cell
  end_whole same = ap (end_in decision) same ∙ sym (end_here whole decision cell below)

  end_set : (side : Side) → to ≡ on_side dim side (diagram_of whole.cells cell) → end_in decision to ≡ ends_at whole (set decision dim side) cell
  end_set side same = ap (end_in decision) same ∙ end_in-on_side decision dim side (diagram_of whole.cells cell) within ∙ sym (end_here whole (set decision dim side) cell below)

  end_taken : (side : Side) → Takes decision dim side → to ≡ on_side dim side (diagram_of whole.cells cell) → end_in decision to ≡ ends_at whole decision cell
  end_taken side takes same = end_set side same ∙ ap (λ own. ends_at whole own cell) (set-taken decision dim side takes)

  cut_left : Takes decision dim Left → IsCutAt (Contains left cell) (Contains right cell) (ends_at whole decision cell) (ends_at whole (set decision dim Right) cell) (end_in decision to)
  cut_left takes = by is.on_left is.on_right is.is_left is.is_right is.is
    where
      by : (on_left on_right : Bool) → IsWhether left cell on_left → IsWhether right cell on_right → IsOnSides dim on_left on_right (diagram_of whole.cells cell) to
          → IsCutAt (Contains left cell) (Contains right cell) (ends_at whole decision cell) (ends_at whole (set decision dim Right) cell) (end_in decision to)
      by true true l r same = is_here l (end_whole same)
      by true false l r same = is_here l (end_taken Left takes same)
      by false true l r same = is_there l r (end_set Right same)
      by false false l r same = is_apart l r (ap (end_in decision) same)

  cut_right : Takes decision dim Right → IsCutAt (Contains right cell) (Contains left cell) (ends_at whole decision cell) (ends_at whole (set decision dim Left) cell) (end_in decision to)
  cut_right takes = by is.on_left is.on_right is.is_left is.is_right is.is
    where
      by : (on_left on_right : Bool) → IsWhether left cell on_left → IsWhether right cell on_right → IsOnSides dim on_left on_right (diagram_of whole.cells cell) to
          → IsCutAt (Contains right cell) (Contains left cell) (ends_at whole decision cell) (ends_at whole (set decision dim Left) cell) (end_in decision to)
      by true true l r same = is_here r (end_whole same)
      by true false l r same = is_there r l (end_set Left same)
      by false true l r same = is_here r (end_taken Right takes same)
      by false false l r same = is_apart r l (ap (end_in decision) same)

-- it is a diagram as before
IsDiagram-cut : (N count dim : ℕ) (left right : List ℕ) (cell : ℕ) (from to : Diagram) → IsCut dim left right cell from to → IsDiagram N count from → IsDiagram N count to
IsDiagram-cut N count dim left right cell from to is old = by is.on_left is.on_right is.is
  where
    on : (side : Side) → IsDiagram N count (on_side dim side from)
    on side = record { ordered = IsOrdered-on_side (64 * N) 0 dim side from old.ordered; cells = HasCells-on_side count dim side from old.cells }

    by : (on_left on_right : Bool) → IsOnSides dim on_left on_right from to → IsDiagram N count to
    by true true same = subst (IsDiagram N count) (sym same) old
    by true false same = subst (IsDiagram N count) (sym same) (on Left)
    by false true same = subst (IsDiagram N count) (sym same) (on Right)
    by false false same = subst (IsDiagram N count) (sym same) (record { ordered = tt; cells = tt })

-- ---- what is reached on a side

-- it leads to what is so where the decision has the side
closed_on : (whole : Cells) (decision : List Side) (dim : ℕ) (side : Side) (kept : List ℕ) (last : ℕ) (found : List ℕ) → Takes decision dim side → IsReached whole.cells dim side kept last found
    → (cell : ℕ) → Contains found cell → EachCell (Contains found) (ends_at whole decision cell)
closed_on whole decision dim side kept last found takes reached cell has =
    subst (EachCell (Contains found)) (sym (end_here whole decision cell (All-contains (λ own. own < cell_count whole) found cell reached.within has)))
    (EachCell-named_on (Contains found) decision dim side (diagram_of whole.cells cell) takes (reached.closed cell has))

-- ---- the narrowed store

-- at a decision: what is reached on the side that it takes, the cells that are asked for among it, and on the other one
record IsOneSidedAt (N : ℕ) (whole new : Cells) (kept : List ℕ) (last : ℕ) (name : ℕ → ℕ) (decision : List Side) : Type 0 where
  other : List Side
  of_other : IsOf N whole.space other
  mine : List ℕ
  theirs : List ℕ
  one_sided : IsOneSided (cell_count whole) (ends_at whole decision) (ends_at whole other) (ends_at new decision) name (Contains mine) (Contains theirs)
  cells : All (Contains mine) kept
  root : Contains mine last

module _ (N dim : ℕ) (whole new : Cells) (kept : List ℕ) (last : ℕ) (left right : List ℕ) (cut : List Diagram) (ones others names : List ℕ)
    (good : IsStore N whole) (all : whole.space ≡ AllOf) (small : dim < 64 * N)
    (kept_within : All (λ cell. cell < cell_count whole) kept) (last_within : last < cell_count whole)
    (on_left : IsReached whole.cells dim Left kept last left) (on_right : IsReached whole.cells dim Right kept last right)
    (cuts : AreOnSides dim left right whole.cells cut) (lefts : AreOpenAlone cut left right ones) (rights : AreOpenAlone cut right left others)
    (paired : ArePaired (length cut) ones others names) (made : AreRepresented names cut new.cells) (space : new.space ≡ whole.space) where
  abbrev name : ℕ → ℕ
  name cell = get_or names cell 0

  abbrev IsNamed : ℕ → Type 0
  IsNamed cell = (name cell ≡ cell) ⊎ IsPairedAt ones others cell (name cell)

  named_as : (cell : ℕ) → cell < cell_count whole → IsNamed cell
  named_as cell within = paired.each cell (omega (arith, cuts.sized))

  left_within : (cell : ℕ) → Contains left cell → cell < cell_count whole
  left_within cell = All-contains (λ own. own < cell_count whole) left cell on_left.within

  right_within : (cell : ℕ) → Contains right cell → cell < cell_count whole
  right_within cell = All-contains (λ own. own < cell_count whole) right cell on_right.within

  name_within : (cell : ℕ) → cell < cell_count whole → name cell < cell_count whole
  name_within cell within = by (named_as cell within)
    where
      by : IsNamed cell → name cell < cell_count whole
      by (inl itself) = omega (arith, itself)
      by (inr pair) = subst (λ own. own < cell_count whole) (sym pair.one) (let lt = (lefts pair.place 0 pair.in_ones).within in omega (arith, cuts.sized))

  -- ---- cells of one side have different names

  -- on the left they have their own
  left_itself : (cell : ℕ) → Contains left cell → name cell ≡ cell
  left_itself cell has = by (named_as cell (left_within cell has))
    where
      by : IsNamed cell → name cell ≡ cell
      by (inl itself) = itself
      by (inr pair) = absurd ((rights pair.place 0 pair.in_others).alone (subst (Contains left) pair.other has))

  left_different : (one two : ℕ) → Contains left one → Contains left two → name one ≡ name two → one ≡ two
  left_different one two has also same = sym (left_itself one has) ∙ same ∙ left_itself two also

  -- on the right the name of a pair is that of no other cell
  pair_apart : (one two : ℕ) → Contains right one → name one ≡ one → IsPairedAt ones others two (name two) → name one ≡ name two → ⊥
  pair_apart one two has itself pair same = (lefts pair.place 0 pair.in_ones).alone (subst (Contains right) (sym itself ∙ same ∙ pair.one) has)

  right_different : (one two : ℕ) → Contains right one → Contains right two → name one ≡ name two → one ≡ two
  right_different one two has also same = by (named_as one (right_within one has)) (named_as two (right_within two also))
    where
      by : IsNamed one → IsNamed two → one ≡ two
      by (inl itself) (inl alike) = sym itself ∙ same ∙ alike
      by (inl itself) (inr pair) = absurd (pair_apart one two has itself pair same)
      by (inr pair) (inl alike) = absurd (pair_apart two one also alike pair (sym same))
      by (inr pair) (inr other) =
          pair.other ∙ ap (λ place. get_or others place 0) (paired.distinct pair.place other.place pair.in_ones other.in_ones (sym pair.one ∙ same ∙ other.one)) ∙ sym other.other

  -- ---- the ends of cells at a decision

  abbrev cut_at : List Side → ℕ → CellEnd
  cut_at decision cell = end_in decision (diagram_of cut cell)

  ends_named : (decision : List Side) (cell : ℕ) → cell < cell_count whole → ends_at new decision cell ≡ mapped_end name (cut_at decision cell)
  ends_named decision cell within = end_here new decision cell (omega (arith, made.sized, cuts.sized)) ∙ (made.each cell (omega (arith, cuts.sized))).ends decision

  IsNamedAt-paired : (decision : List Side) (cell : ℕ) → cell < cell_count whole → IsNamedAt (cut_at decision) name cell
  IsNamedAt-paired decision cell within = by (named_as cell within)
    where
      by : IsNamed cell → IsNamedAt (cut_at decision) name cell
      by (inl itself) = inl itself
      by (inr pair) = inr (
        ap (cut_at decision) pair.other ∙ ap (end_in decision) (rights pair.place 0 pair.in_others).is_open,
        ap (cut_at decision) pair.one ∙ ap (end_in decision) (lefts pair.place 0 pair.in_ones).is_open,
      )

  -- the decision with the other side is of the space too
  of_set : (decision : List Side) (side : Side) → IsOf N whole.space decision → IsOf N whole.space (set decision dim side)
  of_set decision side of = record {
    sized = length-set decision dim side ∙ of.sized;
    inside = subst (λ own. IsIn own (set decision dim side)) (sym all) tt;
  }

  one_sided_left : (decision : List Side) → IsOf N whole.space decision → dim < length decision → Takes decision dim Left → IsOneSidedAt N whole new kept last name decision
  one_sided_left decision of within takes = record {
    other = set decision dim Right;
    of_other = of_set decision Right of;
    mine = left;
    theirs = right;
    one_sided =
        IsOneSided-cut (cell_count whole) (ends_at whole decision) (ends_at whole (set decision dim Right)) (cut_at decision) (ends_at new decision) name (Contains left) (Contains right)
        left_within right_within name_within (λ cell below. cut_left whole decision dim left right cell (diagram_of cut cell) within below (cuts.each cell below) takes)
        (ends_named decision) (IsNamedAt-paired decision) (closed_on whole decision dim Left kept last left takes on_left)
        (closed_on whole (set decision dim Right) dim Right kept last right (slice_get-set_same decision dim Right within) on_right) left_different;
    cells = on_left.cells;
    root = on_left.root;
  }

  one_sided_right : (decision : List Side) → IsOf N whole.space decision → dim < length decision → Takes decision dim Right → IsOneSidedAt N whole new kept last name decision
  one_sided_right decision of within takes = record {
    other = set decision dim Left;
    of_other = of_set decision Left of;
    mine = right;
    theirs = left;
    one_sided =
        IsOneSided-cut (cell_count whole) (ends_at whole decision) (ends_at whole (set decision dim Left)) (cut_at decision) (ends_at new decision) name (Contains right) (Contains left)
        right_within left_within name_within (λ cell below. cut_right whole decision dim left right cell (diagram_of cut cell) within below (cuts.each cell below) takes)
        (ends_named decision) (IsNamedAt-paired decision) (closed_on whole decision dim Right kept last right takes on_right)
        (closed_on whole (set decision dim Left) dim Left kept last left (slice_get-set_same decision dim Left within) on_left) right_different;
    cells = on_right.cells;
    root = on_right.root;
  }

  one_sided_at : (decision : List Side) → IsOf N whole.space decision → IsOneSidedAt N whole new kept last name decision
  one_sided_at decision of = by (get_or decision dim Left) (slice_get-get_or decision dim Left within)
    where
      within : dim < length decision
      within = omega (arith, of.sized, small)

      by : (side : Side) → Takes decision dim side → IsOneSidedAt N whole new kept last name decision
      by Left takes = one_sided_left decision of within takes
      by Right takes = one_sided_right decision of within takes

  -- ---- it is a store

  count_same : cell_count new ≡ cell_count whole
  count_same = made.sized ∙ cuts.sized

  acyclic_at : (decision : List Side) → IsOf N whole.space decision → IsAcyclic (cell_count whole) (ends_at new decision)
  acyclic_at decision of =
      let at = one_sided_at decision of in
      IsAcyclic-one_sided (cell_count whole) (ends_at whole decision) (ends_at whole at.other) (ends_at new decision) name (Contains at.mine) (Contains at.theirs) at.one_sided
      (good.acyclic decision of) (good.acyclic at.other at.of_other)

  names_below : All (λ own. own < cell_count new) names
  names_below = All-from_get_or (λ own. own < cell_count new) names 0 (λ cell within. (let lt = name_within cell (omega (arith, paired.sized, cuts.sized)) in omega (arith, count_same)))

  pub IsStore-narrowed : IsStore N new
  IsStore-narrowed = record {
    acyclic = λ decision of. subst (λ n. IsAcyclic n (ends_at new decision)) (sym count_same) (acyclic_at decision (subst (λ s. IsOf N s decision) space of));
    diagrams = All-from_get_or (IsDiagram N (cell_count new)) new.cells Open (λ cell within.
        (let inside : cell < cell_count whole = omega (arith, count_same) in
        let old = IsDiagram-cut N (cell_count whole) dim left right cell (diagram_of whole.cells cell) (diagram_of cut cell) (cuts.each cell inside) (good.diagrams cell Open inside) in
        let one = made.each cell (omega (arith, cuts.sized)) in
        record {
          ordered = one.ordered (64 * N) 0 old.ordered;
          cells = one.cells (cell_count new) (subst (λ n. HasCells n (diagram_of cut cell)) (sym (paired.sized ∙ cuts.sized)) old.cells) names_below;
        }));
  }

  -- ---- its cells take the same types

  arities_at : (decision : List Side) → AreArities (cell_count whole) (ends_at new decision)
  arities_at decision = subst (λ n. AreArities n (ends_at new decision)) count_same (IsStore-arities N new IsStore-narrowed decision)

  module _ (decision : List Side) (of : IsOf N whole.space decision) (types : List Plain) (type : Plain) where
    types_there : HasTypes new (map name kept) (name last) decision types type → HasTypes whole kept last decision types type
    types_there has =
        let at = one_sided_at decision of in
        let found = brought-one_sided (cell_count whole) (ends_at whole decision) (ends_at whole at.other) (ends_at new decision) name (Contains at.mine) (Contains at.theirs) at.one_sided
        (good.acyclic decision of) (IsStore-arities N whole good decision) has.s (subst (λ n. Solves n (ends_at new decision) has.s) count_same has.solves) in
        record {
          s = found.0;
          solves = found.1;
          cells_are = types-same found.0 has.s name (Contains at.mine) kept (λ cell own. sym (found.2 cell own)) at.cells ∙ has.cells_are;
          root_is = found.2 last at.root ∙ has.root_is;
        }

    types_here : HasTypes whole kept last decision types type → HasTypes new (map name kept) (name last) decision types type
    types_here has =
        let at = one_sided_at decision of in
        let found = carried-one_sided (cell_count whole) (ends_at whole decision) (ends_at whole at.other) (ends_at new decision) name (Contains at.mine) (Contains at.theirs) at.one_sided
        (acyclic_at decision of) (arities_at decision) has.s has.solves in
        record {
          s = found.0;
          solves = subst (λ n. Solves n (ends_at new decision) found.0) (sym count_same) found.1;
          cells_are = sym (types-same has.s found.0 name (Contains at.mine) kept found.2 at.cells) ∙ has.cells_are;
          root_is = found.2 last at.root ∙ has.root_is;
        }

  pub IsNarrowed-narrowed : IsNarrowed N whole kept last (record { store = new; cells = map (λ cell. get_or names cell 0) kept; root = get_or names last 0 })
  IsNarrowed-narrowed = record {
    space = space;
    inside = record {
      cells =
          All-map (λ cell. cell < cell_count new) name kept
          (All-each (λ cell. cell < cell_count whole) (λ cell. name cell < cell_count new) kept (λ cell within. (let lt = name_within cell within in omega (arith, count_same))) kept_within);
      root = let lt = name_within last last_within in omega (arith, count_same);
    };
    count = length-map kept name;
    types = λ decision of types type. (types_there decision of types type, types_here decision of types type);
  }
