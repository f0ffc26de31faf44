use Rattle.std.proofs.Common.{◌≡◌, ℕ, zero, suc, ◌*◌, ◌<◌, List, [], ◌∷◌, ◌+◌, Option, Some, None, length, map, get_or, slice_get, refl, ap, sym, subst, ◌∙◌, arith}
use Rattle.std.specs.List.{All}
use Rattle.std.proofs.lemmas.List.Elements.{All-nil, All-cons, All-head, All-tail, All-from_get_or}
use Rattle.std.proofs.lemmas.Option.{slice_get-get_or}
use Rattle.vt_dec.specs.declared.side.Side.{Side}
use Rattle.vt_dec.specs.declared.side.Side.TheVariants.{Left, Right}
use Rattle.vt_type.specs.Variational.{by_side}
use Rattle.vt_store.specs.Ends.{CellEnd, Free, Same, Made, EachCell, EndsWithin, IsAcyclic, mapped_end}
use Rattle.vt_store.specs.Writes.{IsOf}
use Rattle.vt_store.specs.declared.diagram.Diagram.{Diagram, Open, Link, Con}
use Rattle.vt_store.specs.Diagrams.{choice, end_in, IsOrdered, HasCells, IsDiagram, mapped}
use Rattle.vt_store.specs.Stores.{Cells, end_of, ends_at, cell_count, IsStore}
use Rattle.vt_store.specs.Parts.{IsPartOf, IsPart, IsFound, AreMoved, AreTaken}
use Rattle.vt_store.proofs.Cells.{All-each, EachCell-each, EachCell-both}
use Rattle.vt_store.proofs.Acyclic.{EndsWithin-tight}
use Rattle.vt_store.proofs.Finding.{IsLater-both, map-kept}
use Rattle.vt_store.proofs.StoreSteps.{HasCells-ends}

-- A store of moved diagrams is a part of the one that they come from.

pub end_in-mapped : (by : ℕ → ℕ) (decision : List Side) (diagram : Diagram) → end_in decision (mapped by diagram) ≡ mapped_end by (end_in decision diagram)
end_in-mapped by decision Open = refl
end_in-mapped by decision (Link cell) = refl
end_in-mapped by decision (Con head kids) = refl
end_in-mapped by decision (choice dim left right) = of (slice_get decision dim) (end_in-mapped by decision left) (end_in-mapped by decision right)
  where
    of : (side : Option Side) → end_in decision (mapped by left) ≡ mapped_end by (end_in decision left) → end_in decision (mapped by right) ≡ mapped_end by (end_in decision right)
        → by_side side (end_in decision (mapped by left)) (end_in decision (mapped by right)) ≡ mapped_end by (by_side side (end_in decision left) (end_in decision right))
    of (Some Left) l r = l
    of (Some Right) l r = r
    of None l r = l

IsOrdered-mapped : (by : ℕ → ℕ) (bound from : ℕ) (diagram : Diagram) → IsOrdered bound from (mapped by diagram) → IsOrdered bound from diagram
IsOrdered-mapped by bound from Open h = tt
IsOrdered-mapped by bound from (Link cell) h = tt
IsOrdered-mapped by bound from (Con head kids) h = tt
IsOrdered-mapped by bound from (choice dim left right) h = (h.0, h.1, IsOrdered-mapped by bound (dim + 1) left h.2, IsOrdered-mapped by bound (dim + 1) right h.3)

All-mapped : (P : ℕ → Type 0) (by : ℕ → ℕ) (kids : List ℕ) → All P (map by kids) → All (λ kid. P (by kid)) kids
All-mapped P by [] h = All-nil (λ kid. P (by kid))
All-mapped P by (kid ∷ kids) h = All-cons (λ own. P (by own)) kid kids (All-head P (by kid) (map by kids) h) (All-mapped P by kids (All-tail P (by kid) (map by kids) h))

EachCell-mapped : (P : ℕ → Type 0) (by : ℕ → ℕ) (end : CellEnd) → EachCell P (mapped_end by end) → EachCell (λ cell. P (by cell)) end
EachCell-mapped P by Free h = tt
EachCell-mapped P by (Same cell) h = h
EachCell-mapped P by (Made head kids) h = All-mapped P by kids h

-- a part of cells of which none contains itself is so too
module _ (count all : ℕ) (part whole : ℕ → CellEnd) (origin : ℕ → ℕ) (is : IsPartOf count part all whole origin) where
  EndsWithin-part : (most cell : ℕ) → cell < count → EndsWithin all whole most (origin cell) → EndsWithin count part most cell
  EndsWithin-part zero cell within h = absurd h
  EndsWithin-part (suc most) cell within h =
      let below = EachCell-mapped (EndsWithin all whole most) origin (part cell) (subst (EachCell (EndsWithin all whole most)) (is.ends cell within) h.1) in (
        within,
        EachCell-each (λ other. (other < count) × EndsWithin all whole most (origin other)) (EndsWithin count part most) (part cell) (λ other both. EndsWithin-part most other both.0 both.1)
            (EachCell-both (λ other. other < count) (λ other. EndsWithin all whole most (origin other)) (part cell) (is.closed cell within) below),
      )

  pub IsAcyclic-part : IsAcyclic all whole → IsAcyclic count part
  IsAcyclic-part acyclic cell within = EndsWithin-tight count part all cell (EndsWithin-part all cell within (acyclic (origin cell) (is.within cell within)))

module _ (N : ℕ) (whole new : Cells) (old found : List ℕ) (good : IsStore N whole) (taken : AreTaken whole.cells old found new.cells) (space : new.space ≡ whole.space) where
  abbrev origin : ℕ → ℕ
  origin place = get_or found place 0

  copy_at : (place : ℕ) → place < cell_count new → slice_get new.cells place ≡ Some (get_or new.cells place Open)
  copy_at place within = slice_get-get_or new.cells place Open within

  within_whole : (place : ℕ) → place < cell_count new → origin place < cell_count whole
  within_whole place within = taken.copied.within place 0 (omega (arith, taken.all))

  ends_same : (decision : List Side) (place : ℕ) → place < cell_count new → ends_at whole decision (origin place) ≡ mapped_end origin (ends_at new decision place)
  ends_same decision place within =
      ap (end_of decision) (slice_get-get_or whole.cells (origin place) Open (within_whole place within))
      ∙ ap (end_in decision) (sym (taken.copied.same place within))
      ∙ end_in-mapped origin decision (get_or new.cells place Open)
      ∙ ap (λ (own : Option Diagram). mapped_end origin (end_of decision own)) (sym (copy_at place within))

  pub IsPartOf-taken : (decision : List Side) → IsPartOf (cell_count new) (ends_at new decision) (cell_count whole) (ends_at whole decision) origin
  IsPartOf-taken decision = record {
    within = within_whole;
    different = λ one other lt below same. taken.distinct one other (omega (arith, taken.all)) (omega (arith, taken.all)) same;
    closed = λ place within.
        subst (EachCell (λ other. other < cell_count new)) (ap (end_of decision) (sym (copy_at place within)))
        (HasCells-ends (cell_count new) (get_or new.cells place Open) decision (subst (λ count. HasCells count (get_or new.cells place Open)) (sym taken.all) (taken.copied.placed place Open within))).1;
    ends = ends_same decision;
  }

  pub IsStore-taken : IsStore N new
  IsStore-taken = record {
    acyclic = λ decision of.
        IsAcyclic-part (cell_count new) (cell_count whole) (ends_at new decision) (ends_at whole decision) origin (IsPartOf-taken decision)
        (good.acyclic decision (subst (λ s. IsOf N s decision) space of));
    diagrams = All-from_get_or (IsDiagram N (cell_count new)) new.cells Open (λ place within. record {
      ordered = IsOrdered-mapped origin (64 * N) 0 (get_or new.cells place Open)
          (subst (IsOrdered (64 * N) 0) (sym (taken.copied.same place within)) (good.diagrams (origin place) Open (within_whole place within)).ordered);
      cells = subst (λ count. HasCells count (get_or new.cells place Open)) (sym taken.all) (taken.copied.placed place Open within);
    });
  }

  -- with the places of what was asked for
  pub IsPart-taken : (none one cells places : List ℕ) (root place : ℕ) → AreMoved none one cells places → IsFound one old root place → IsPart {N = N} whole cells root (record { store = new; cells = places; root = place })
  IsPart-taken none one cells places root place moved entered =
      let later = IsLater-both one old found entered.later taken.later in
      record {
        space = space;
        origin = origin;
        cells_are = map-kept one found places later moved.placed ∙ moved.same;
        root_is = taken.later.kept place entered.placed ∙ entered.same;
        cells_within = All-each (λ own. own < length one) (λ own. own < cell_count new) places (λ own lt. omega (arith, later.longer, taken.all)) moved.placed;
        root_within = omega (arith, entered.placed, taken.later.longer, taken.all);
        ends = IsPartOf-taken;
      }

-- what was asked for is found among the cells of the whole
pub found_within : (count root place : ℕ) (none one two cells places : List ℕ) → none ≡ [] → AreMoved none one cells places → IsFound one two root place
    → All (λ cell. cell < count) cells → root < count → All (λ cell. cell < count) two
found_within count root place none one two cells places empty moved entered cells_below root_below =
    entered.within count root_below (moved.within count cells_below (subst (All (λ cell. cell < count)) (sym empty) (All-nil (λ cell. cell < count))))
