use Rattle.std.proofs.Common.{◌≡◌, ◌⊎◌, ℕ, zero, suc, ◌+◌, ◌-◌, ◌*◌, ◌^◌, ◌<◌, ◌≤◌, List, ◌++◌, Option, Some, None, length, map, slice_get, refl, ap, sym, subst, ◌∙◌, inl, inr, arith, length-append}
use Rattle.std.specs.List.{All}
use Rattle.std.specs.Option.{option_map}
use Rattle.std.proofs.lemmas.List.{length-map}
use Rattle.std.proofs.lemmas.List.Elements.{All-append, All-map}
use Rattle.std.proofs.lemmas.Option.{slice_get-map}
use Rattle.vt_dec.specs.declared.side.Side.{Side}
use Rattle.vt_dec.specs.declared.side.Side.TheVariants.{Left, Right}
use Rattle.vt_type.specs.Variational.{by_side}
use Rattle.vt_store.specs.Ends.{CellEnd, Free, Same, Made, EachCell, EndsWithin}
use Rattle.vt_store.specs.Writes.{IsOf}
use Rattle.vt_store.specs.declared.diagram.Diagram.{Diagram, Open, Link, Con, Choice}
use Rattle.vt_store.specs.Diagrams.{choice, end_in, IsOrdered, HasCells, HasRoom, IsDiagram, raised}
use Rattle.vt_store.specs.Stores.{Cells, end_of, ends_at, cell_count, IsStore, raised_end, IsAppended}
use Rattle.vt_store.proofs.Cells.{All-each, EachCell-each, EndsWithin-more}
use Rattle.vt_store.proofs.Acyclic.{EndsWithin-grown}
use Rattle.vt_store.proofs.Writing.{le_or_lt}
use Rattle.vt_store.proofs.Slices.{slice_get-before, slice_get-behind}
use Rattle.vt_store.proofs.DiagramShapes.{diagram_here}
use Rattle.vt_store.proofs.StoreSteps.{diagram_at, IsDiagram-more}

-- ---- a diagram whose cells are raised

pub room_parts : (by dim : ℕ) (diagram left right : Diagram) → diagram ≡ Choice dim left right → HasRoom by diagram → HasRoom by left × HasRoom by right
room_parts by dim diagram left right is h = subst (HasRoom by) (is ∙ diagram_here dim left right) h

pub raised-made : (by dim : ℕ) (diagram left right lefts rights made : Diagram) → diagram ≡ Choice dim left right → lefts ≡ raised by left → rights ≡ raised by right → made ≡ choice dim lefts rights → made ≡ raised by diagram
raised-made by dim diagram left right lefts rights made is l r e =
    e ∙ (λ i. choice dim (l i) (r i)) ∙ sym (ap (raised by) (is ∙ diagram_here dim left right))

pub HasCells-room : (count by : ℕ) (diagram : Diagram) → count + by ≤ 2 ^ 64 → HasCells count diagram → HasRoom by diagram
HasCells-room count by Open le h = tt
HasCells-room count by (Link cell) le h = omega arith
HasCells-room count by (Con head kids) le h = All-each (λ kid. kid < count) (λ kid. kid + by < 2 ^ 64) kids (λ kid lt. omega arith) h.1
HasCells-room count by (choice dim left right) le h = (HasCells-room count by left le h.0, HasCells-room count by right le h.1)

HasCells-raised : (count by : ℕ) (diagram : Diagram) → HasCells count diagram → HasCells (by + count) (raised by diagram)
HasCells-raised count by Open h = tt
HasCells-raised count by (Link cell) h = omega arith
HasCells-raised count by (Con head kids) h = (
  length-map kids (λ kid. kid + by) ∙ h.0,
  All-map (λ kid. kid < by + count) (λ kid. kid + by) kids (All-each (λ kid. kid < count) (λ kid. kid + by < by + count) kids (λ kid lt. omega arith) h.1),
)
HasCells-raised count by (choice dim left right) h = (HasCells-raised count by left h.0, HasCells-raised count by right h.1)

IsOrdered-raised : (bound from by : ℕ) (diagram : Diagram) → IsOrdered bound from diagram → IsOrdered bound from (raised by diagram)
IsOrdered-raised bound from by Open h = tt
IsOrdered-raised bound from by (Link cell) h = tt
IsOrdered-raised bound from by (Con head kids) h = tt
IsOrdered-raised bound from by (choice dim left right) h = (h.0, h.1, IsOrdered-raised bound (dim + 1) by left h.2, IsOrdered-raised bound (dim + 1) by right h.3)

end_in-raised : (by : ℕ) (decision : List Side) (diagram : Diagram) → end_in decision (raised by diagram) ≡ raised_end by (end_in decision diagram)
end_in-raised by decision Open = refl
end_in-raised by decision (Link cell) = refl
end_in-raised by decision (Con head kids) = refl
end_in-raised by decision (choice dim left right) = of (slice_get decision dim) (end_in-raised by decision left) (end_in-raised by decision right)
  where
    of : (side : Option Side) → end_in decision (raised by left) ≡ raised_end by (end_in decision left) → end_in decision (raised by right) ≡ raised_end by (end_in decision right)
        → by_side side (end_in decision (raised by left)) (end_in decision (raised by right)) ≡ raised_end by (by_side side (end_in decision left) (end_in decision right))
    of (Some Left) l r = l
    of (Some Right) l r = r
    of None l r = l

EachCell-raised : (P : ℕ → Type 0) (by : ℕ) (end : CellEnd) → EachCell (λ cell. P (cell + by)) end → EachCell P (raised_end by end)
EachCell-raised P by Free h = tt
EachCell-raised P by (Same cell) h = h
EachCell-raised P by (Made head kids) h = All-map P (λ kid. kid + by) kids h

-- cells whose ends are those of others, raised
EndsWithin-raised : (n m : ℕ) (e f : ℕ → CellEnd) → ((cell : ℕ) → cell < m → e (n + cell) ≡ raised_end n (f cell)) → (most cell place : ℕ) → place ≡ cell + n → EndsWithin m f most cell → EndsWithin (n + m) e most place
EndsWithin-raised n m e f same zero cell place is h = absurd h
EndsWithin-raised n m e f same (suc most) cell place is h = (
  omega (arith, h.0),
  subst (EachCell (EndsWithin (n + m) e most)) (sym (ap e (omega arith) ∙ same cell h.0))
      (EachCell-raised (EndsWithin (n + m) e most) n (f cell)
      (EachCell-each (EndsWithin m f most) (λ below. EndsWithin (n + m) e most (below + n)) (f cell) (λ below g. EndsWithin-raised n m e f same most below (below + n) refl g) h.1)),
)

-- ---- the cells of a store after those of another

module _ (N : ℕ) (old other new : Cells) (appended : new.cells ≡ old.cells ++ map (raised (cell_count old)) other.cells) (space : new.space ≡ old.space) (spaces : other.space ≡ old.space) (good : IsStore N other) where
  count_sum : cell_count new ≡ cell_count old + cell_count other
  count_sum = ap length appended ∙ length-append old.cells (map (raised (cell_count old)) other.cells) ∙ ap (λ n. cell_count old + n) (length-map other.cells (raised (cell_count old)))

  ends_old : (decision : List Side) (cell : ℕ) → cell < cell_count old → ends_at new decision cell ≡ ends_at old decision cell
  ends_old decision cell within =
      ap (λ (cells : List Diagram). end_of decision (slice_get cells cell)) appended ∙ ap (end_of decision) (slice_get-before old.cells (map (raised (cell_count old)) other.cells) cell within)

  ends_new : (decision : List Side) (cell : ℕ) → cell < cell_count other → ends_at new decision (cell_count old + cell) ≡ raised_end (cell_count old) (ends_at other decision cell)
  ends_new decision cell within =
      let here = diagram_at N other good cell within in
      ap (λ (cells : List Diagram). end_of decision (slice_get cells (cell_count old + cell))) appended
      ∙ ap (end_of decision) (slice_get-behind old.cells (map (raised (cell_count old)) other.cells) cell (cell_count old + cell) refl ∙ slice_get-map (raised (cell_count old)) other.cells cell ∙ ap (option_map (raised (cell_count old))) here.1)
      ∙ end_in-raised (cell_count old) decision here.0 ∙ sym (ap (λ (own : Option Diagram). raised_end (cell_count old) (end_of decision own)) here.1)

  pub IsAppended-both : IsAppended old other new
  IsAppended-both = record { count = count_sum; kept = ends_old; added = ends_new; space = space }

  pub IsStore-append : IsStore N old → IsStore N new
  IsStore-append first = record {
    acyclic = λ decision of cell within.
        (let of_old = subst (λ s. IsOf N s decision) space of in
        let of_other = subst (λ s. IsOf N s decision) (sym spaces) of_old in
        subst (λ n. EndsWithin n (ends_at new decision) n cell) (sym count_sum) (by decision of_old of_other cell (omega (arith, count_sum)) (le_or_lt (cell_count old) cell)));
    diagrams =
        subst (All (IsDiagram N (cell_count new))) (sym appended)
        (All-append (IsDiagram N (cell_count new)) old.cells (map (raised (cell_count old)) other.cells)
        (All-each (IsDiagram N (cell_count old)) (IsDiagram N (cell_count new)) old.cells (λ d. IsDiagram-more N (cell_count old) (cell_count new) d (omega (arith, count_sum))) first.diagrams)
        (All-map (IsDiagram N (cell_count new)) (raised (cell_count old)) other.cells
        (All-each (IsDiagram N (cell_count other)) (λ d. IsDiagram N (cell_count new) (raised (cell_count old) d)) other.cells
        (λ d h. record {
          ordered = IsOrdered-raised (64 * N) 0 (cell_count old) d h.ordered;
          cells = subst (λ n. HasCells n (raised (cell_count old) d)) (sym count_sum) (HasCells-raised (cell_count other) (cell_count old) d h.cells);
        }) good.diagrams)));
  }
    where
      by : (decision : List Side) → IsOf N old.space decision → IsOf N other.space decision → (cell : ℕ) → cell < cell_count old + cell_count other → (cell_count old ≤ cell) ⊎ (cell < cell_count old)
          → EndsWithin (cell_count old + cell_count other) (ends_at new decision) (cell_count old + cell_count other) cell
      by decision of_old of_other cell within (inr before) =
          EndsWithin-more _ (ends_at new decision) (cell_count old) _ cell (omega arith)
          (EndsWithin-grown (cell_count old) (cell_count old + cell_count other) (ends_at old decision) (ends_at new decision) (omega arith) (ends_old decision) (cell_count old) cell (first.acyclic decision of_old cell before))
      by decision of_old of_other cell within (inl behind) =
          EndsWithin-more _ (ends_at new decision) (cell_count other) _ cell (omega arith)
          (EndsWithin-raised (cell_count old) (cell_count other) (ends_at new decision) (ends_at other decision) (ends_new decision) (cell_count other) (cell - cell_count old) cell (omega arith)
          (good.acyclic decision of_other (cell - cell_count old) (omega arith)))
