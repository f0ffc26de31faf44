use Rattle.std.proofs.Common.{◌≡◌, ◌⊎◌, ℕ, suc, ◌*◌, ◌<◌, ◌≤◌, List, [], ◌∷◌, ◌++◌, Option, Some, None, length, set, get_or, slice_get, refl, ap, sym, subst, ◌∙◌, inl, inr, arith, length-append, length-set}
use Rattle.std.specs.List.{All}
use Rattle.std.proofs.lemmas.Bool.{cases_eq}
use Rattle.std.proofs.lemmas.List.Elements.{All-push, All-set}
use Rattle.std.proofs.lemmas.Option.{slice_get-get_or}
use Rattle.vt_dec.specs.declared.side.Side.{Side}
use Rattle.vt_dec.specs.declared.side.Side.TheVariants.{Left, Right}
use Rattle.vt_dec.specs.declared.side.Space.{Space}
use Rattle.vt_dec.specs.declared.side.Space.TheVariants.{All as AllOf, AtMost}
use Rattle.vt_dec.specs.Decisions.{Region, Agrees, Admits, IsIn, rights}
use Rattle.vt_dec.proofs.Admitting.{Admits-or}
use Rattle.vt_dec.proofs.Slices.{slice_get-set_same, slice_get-set_other}
use Rattle.vt_type.specs.Variational.{by_side}
use Rattle.vt_store.specs.Ends.{CellEnd, Free, Same, EachCell, HasArity, IsAcyclic, AreArities, Reaches}
use Rattle.vt_store.specs.Writes.{IsOf, IsWrite}
use Rattle.vt_store.specs.declared.diagram.Diagram.{Diagram, Open, Link, Con}
use Rattle.vt_store.specs.Diagrams.{choice, end_in, HasCells, IsDiagram, Passes}
use Rattle.vt_store.specs.Branches.{IsLeastBranch}
use Rattle.vt_store.specs.Stores.{Cells, end_of, ends_at, cell_count, IsStore, Adds, IsBound, ways_of, IsCellBranch, IsOneEnd}
use Rattle.vt_store.proofs.Cells.{All-each}
use Rattle.vt_store.proofs.Acyclic.{IsAcyclic-push, IsAcyclic-bound, IsAcyclic-same}
use Rattle.vt_store.proofs.Writing.{write-admitted, write-others}
use Rattle.vt_store.proofs.Slices.{slice_get-before, slice_get-behind}

-- a diagram names its cells at each decision
pub HasCells-ends : (count : ℕ) (diagram : Diagram) (decision : List Side) → HasCells count diagram → HasArity (end_in decision diagram) × EachCell (λ cell. cell < count) (end_in decision diagram)
HasCells-ends count Open decision h = (tt, tt)
HasCells-ends count (Link cell) decision h = (tt, h)
HasCells-ends count (Con head kids) decision h = h
HasCells-ends count (choice dim left right) decision h = by (slice_get decision dim) (HasCells-ends count left decision h.0) (HasCells-ends count right decision h.1)
  where
    by : (side : Option Side) → HasArity (end_in decision left) × EachCell (λ cell. cell < count) (end_in decision left) → HasArity (end_in decision right) × EachCell (λ cell. cell < count) (end_in decision right)
        → HasArity (by_side side (end_in decision left) (end_in decision right)) × EachCell (λ cell. cell < count) (by_side side (end_in decision left) (end_in decision right))
    by (Some Left) l r = l
    by (Some Right) l r = r
    by None l r = l

-- with more cells it still does
pub HasCells-more : (few many : ℕ) (diagram : Diagram) → few ≤ many → HasCells few diagram → HasCells many diagram
HasCells-more few many Open le h = tt
HasCells-more few many (Link cell) le h = omega arith
HasCells-more few many (Con head kids) le h = (h.0, All-each (λ kid. kid < few) (λ kid. kid < many) kids (λ kid lt. omega arith) h.1)
HasCells-more few many (choice dim left right) le h = (HasCells-more few many left le h.0, HasCells-more few many right le h.1)

pub IsDiagram-more : (N few many : ℕ) (diagram : Diagram) → few ≤ many → IsDiagram N few diagram → IsDiagram N many diagram
IsDiagram-more N few many diagram le h = record { ordered = h.ordered; cells = HasCells-more few many diagram le h.cells }

-- the diagram of a cell
module _ (N : ℕ) (store : Cells) (good : IsStore N store) (cell : ℕ) (within : cell < cell_count store) where
  pub diagram_at : (diagram : Diagram) × (slice_get store.cells cell ≡ Some diagram) × IsDiagram N (cell_count store) diagram
  diagram_at = (get_or store.cells cell Open, slice_get-get_or store.cells cell Open within, good.diagrams cell Open within)

  pub read_at : (diagram : Diagram) → diagram ≡ get_or store.cells cell diagram → IsDiagram N (cell_count store) diagram × (slice_get store.cells cell ≡ Some diagram)
  read_at diagram is = (subst (IsDiagram N (cell_count store)) (sym is) (good.diagrams cell diagram within), slice_get-get_or store.cells cell diagram within ∙ ap Some (sym is))

pub IsStore-arities : (N : ℕ) (store : Cells) → IsStore N store → (decision : List Side) → AreArities (cell_count store) (ends_at store decision)
IsStore-arities N store good decision cell within =
    let here = diagram_at N store good cell within in
    subst HasArity (ap (end_of decision) (sym here.1)) (HasCells-ends (cell_count store) here.0 decision here.2.cells).0

-- ---- one more cell

module _ (N : ℕ) (old new : Cells) (diagram : Diagram) (pushed : new.cells ≡ old.cells ++ diagram ∷ []) (space : new.space ≡ old.space) where
  count_more : cell_count new ≡ suc (cell_count old)
  count_more = ap length pushed ∙ length-append old.cells (diagram ∷ []) ∙ omega arith

  ends_kept : (decision : List Side) (cell : ℕ) → cell < cell_count old → ends_at new decision cell ≡ ends_at old decision cell
  ends_kept decision cell within = ap (λ (cells : List Diagram). end_of decision (slice_get cells cell)) pushed ∙ ap (end_of decision) (slice_get-before old.cells (diagram ∷ []) cell within)

  end_added : (decision : List Side) → ends_at new decision (cell_count old) ≡ end_in decision diagram
  end_added decision = ap (λ (cells : List Diagram). end_of decision (slice_get cells (cell_count old))) pushed ∙ ap (end_of decision) (slice_get-behind old.cells (diagram ∷ []) 0 (cell_count old) (omega arith))

  pub IsStore-push : IsStore N old → IsDiagram N (cell_count old) diagram → IsStore N new
  IsStore-push good one = record {
    acyclic = λ decision of.
        subst (λ n. IsAcyclic n (ends_at new decision)) (sym count_more)
        (IsAcyclic-push (cell_count old) (ends_at old decision) (ends_at new decision) (good.acyclic decision (subst (λ s. IsOf N s decision) space of)) (ends_kept decision)
        (subst (EachCell (λ cell. cell < cell_count old)) (sym (end_added decision)) (HasCells-ends (cell_count old) diagram decision one.cells).1));
    diagrams =
        subst (All (IsDiagram N (cell_count new))) (sym pushed)
        (All-push (IsDiagram N (cell_count new)) old.cells diagram
        (All-each (IsDiagram N (cell_count old)) (IsDiagram N (cell_count new)) old.cells (λ d. IsDiagram-more N (cell_count old) (cell_count new) d (omega (arith, count_more))) good.diagrams)
        (IsDiagram-more N (cell_count old) (cell_count new) diagram (omega (arith, count_more)) one));
  }

  pub Adds-push : (end : List Side → CellEnd) → ((decision : List Side) → end_in decision diagram ≡ end decision) → Adds end old new
  Adds-push end is = record {
    count = omega (arith, count_more);
    added = λ decision. end_added decision ∙ is decision;
    kept = ends_kept;
    space = space;
  }

-- ---- a cell that is bound

module _ (N : ℕ) (region : Region) (cell to : ℕ) (old new : Cells) (before after : Diagram)
    (was : slice_get old.cells cell ≡ Some before) (changed : new.cells ≡ set old.cells cell after) (same : new.space ≡ old.space)
    (long : length region.sides ≡ 64 * N) (spaces : region.space ≡ old.space) (within : cell < cell_count old)
    (write : IsWrite N region 0 (λ (end : CellEnd). Same to) (λ d. end_in d before) (λ d. end_in d after)) where
  count_same : cell_count new ≡ cell_count old
  count_same = ap length changed ∙ length-set old.cells cell after

  end_now : (decision : List Side) → ends_at new decision cell ≡ end_in decision after
  end_now decision = ap (λ (cells : List Diagram). end_of decision (slice_get cells cell)) changed ∙ ap (end_of decision) (slice_get-set_same old.cells cell after within)

  end_before : (decision : List Side) → ends_at old decision cell ≡ end_in decision before
  end_before decision = ap (end_of decision) was

  admitted : (decision : List Side) → Admits region decision → ends_at new decision cell ≡ Same to
  admitted decision admits = end_now decision ∙ write-admitted N region (λ (end : CellEnd). Same to) (λ d. end_in d before) (λ d. end_in d after) write long decision admits

  others : (decision : List Side) → IsOf N old.space decision → (Admits region decision → ⊥) → ends_at new decision cell ≡ ends_at old decision cell
  others decision of out =
      end_now decision ∙ write-others N region (λ (end : CellEnd). Same to) (λ d. end_in d before) (λ d. end_in d after) write old.space spaces decision of out ∙ sym (end_before decision)

  elsewhere : (decision : List Side) (other : ℕ) → (other ≡ cell → ⊥) → ends_at new decision other ≡ ends_at old decision other
  elsewhere decision other differ =
      ap (λ (cells : List Diagram). end_of decision (slice_get cells other)) changed ∙ ap (end_of decision) (slice_get-set_other old.cells cell other after differ)

  pub IsBound-set : new.spare ≡ old.spare → IsBound N region cell to old new
  IsBound-set spare = record { count = count_same; admitted = admitted; others = others; elsewhere = elsewhere; space = same; spare = spare }

  pub IsStore-bound : IsStore N old → to < cell_count old → IsDiagram N (cell_count old) after
      → ((decision : List Side) → Admits region decision → ends_at old decision cell ≡ Free)
      → ((decision : List Side) → Admits region decision → Reaches (ends_at old decision) to cell → ⊥) → IsStore N new
  IsStore-bound good inside one free apart = record {
    acyclic = λ decision of. subst (λ n. IsAcyclic n (ends_at new decision)) (sym count_same) (by decision (subst (λ s. IsOf N s decision) same of) (Admits-or region decision));
    diagrams =
        subst (All (IsDiagram N (cell_count new))) (sym changed)
        (All-set (IsDiagram N (cell_count new)) old.cells cell after
        (IsDiagram-more N (cell_count old) (cell_count new) after (omega (arith, count_same)) one)
        (All-each (IsDiagram N (cell_count old)) (IsDiagram N (cell_count new)) old.cells (λ d. IsDiagram-more N (cell_count old) (cell_count new) d (omega (arith, count_same))) good.diagrams));
  }
    where
      by : (decision : List Side) → IsOf N old.space decision → Admits region decision ⊎ (Admits region decision → ⊥) → IsAcyclic (cell_count old) (ends_at new decision)
      by decision of (inl admits) =
          IsAcyclic-bound (cell_count old) (ends_at old decision) (ends_at new decision) cell to (free decision admits) (admitted decision admits)
          (λ other inner differ. elsewhere decision other differ) inside (apart decision admits) (good.acyclic decision of)
      by decision of (inr out) =
          (λ other inner. IsAcyclic-same (cell_count old) (ends_at old decision) (ends_at new decision) (λ own lt. unchanged own (cases_eq own cell)) (cell_count old) other (good.acyclic decision of other inner))
        where
          unchanged : (own : ℕ) → (own ≡ cell) ⊎ (own ≡ cell → ⊥) → ends_at new decision own ≡ ends_at old decision own
          unchanged own (inl e) = ap (ends_at new decision) e ∙ others decision of out ∙ sym (ap (ends_at old decision) e)
          unchanged own (inr differ) = elsewhere decision own differ

-- ---- where a cell branches

module _ (store : Cells) (cell : ℕ) (region : Region) (diagram : Diagram) (is : slice_get store.cells cell ≡ Some diagram) where
  pub branch_at : (found : Option ℕ) → IsLeastBranch region (Passes diagram) found → IsCellBranch store cell region found
  branch_at found h = subst (λ (own : Option Diagram). IsLeastBranch region (ways_of own) found) (sym is) h

  pub alike_at : ((one other : List Side) → Admits region one → Admits region other → end_in one diagram ≡ end_in other diagram) → IsOneEnd store cell region
  alike_at same one other a b = ap (end_of one) is ∙ same one other a b ∙ sym (ap (end_of other) is)
