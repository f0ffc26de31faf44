use Rattle.std.proofs.Common.{◌≡◌, ◌⊎◌, ℕ, ◌+◌, ◌-◌, ◌<◌, ◌≤◌, List, [], ◌∷◌, length, map, cond, nat_lt, refl, ap, sym, subst, ◌∙◌, inl, inr, arith}
use Rattle.std.specs.List.{All}
use Rattle.std.proofs.lemmas.Bool.{lt-ltb, le-ltb, cases_lt}
use Rattle.std.proofs.lemmas.List.{length-map}
use Rattle.std.proofs.lemmas.List.Elements.{All-head, All-tail, All-map, All-weaker}
use Rattle.std.proofs.lemmas.Simd.{map-map}
use Rattle.vt_dec.specs.declared.side.Side.{Side}
use Rattle.vt_type.specs.declared.plain.Plain.{Plain, Con}
use Rattle.vt_type.specs.Plain.{IsWellFormed}
use Rattle.vt_store.specs.Ends.{CellEnd, Free, Same, Made, EachCell, IsAcyclic}
use Rattle.vt_store.specs.Solutions.{plain_kids, Fits, Solves}
use Rattle.vt_store.specs.Stores.{Cells, cell_count, ends_at, raised_end, IsAppended}
use Rattle.vt_store.specs.Writes.{IsOf}
use Rattle.vt_store.proofs.Cells.{EndsWithin-named}
use Rattle.vt_scheme.specs.declared.scheme.Scheme.{Scheme}
use Rattle.vt_scheme.specs.declared.scheme.Copied.{Copied}
use Rattle.vt_scheme.specs.Schemes.{HasTypes, AreCells, ExtendsSolution, IsInstanceOf}
use Rattle.vt_scheme.proofs.Freezing.{map_moved}

-- Cells that come after others: solutions of both are one solution.

map_same : (s t : ℕ → Plain) (count : ℕ) (cells : List ℕ) → ((cell : ℕ) → cell < count → t cell ≡ s cell) → All (λ cell. cell < count) cells → map t cells ≡ map s cells
map_same s t count [] same h = refl
map_same s t count (cell ∷ cells) same h =
    let here = same cell (All-head (λ own. own < count) cell cells h) in
    let rest = map_same s t count cells same (All-tail (λ own. own < count) cell cells h) in
    λ i. here i ∷ rest i

-- the types of cells on which two functions agree
Fits-agree : (s t : ℕ → Plain) (count : ℕ) (type : Plain) (end : CellEnd) → ((cell : ℕ) → cell < count → t cell ≡ s cell) → EachCell (λ cell. cell < count) end → Fits s type end → Fits t type end
Fits-agree s t count type Free same closed h = tt
Fits-agree s t count type (Same cell) same closed h = h ∙ sym (same cell closed)
Fits-agree s t count type (Made head kids) same closed h = h ∙ ap (λ types. Con head (plain_kids types)) (sym (map_same s t count kids same closed))

Fits-raised : (s t : ℕ → Plain) (by count : ℕ) (type : Plain) (end : CellEnd) → ((cell : ℕ) → cell < count → t (cell + by) ≡ s cell) → EachCell (λ cell. cell < count) end → Fits s type end → Fits t type (raised_end by end)
Fits-raised s t by count type Free same closed h = tt
Fits-raised s t by count type (Same cell) same closed h = h ∙ sym (same cell closed)
Fits-raised s t by count type (Made head kids) same closed h = h ∙ ap (λ types. Con head (plain_kids types)) (sym (map_moved s t (λ kid. kid + by) count kids same closed))

Fits-lowered : (t : ℕ → Plain) (by : ℕ) (type : Plain) (end : CellEnd) → Fits t type (raised_end by end) → Fits (λ cell. t (cell + by)) type end
Fits-lowered t by type Free h = tt
Fits-lowered t by type (Same cell) h = h
Fits-lowered t by type (Made head kids) h = h ∙ ap (λ types. Con head (plain_kids types)) (map-map t (λ kid. kid + by) kids)

-- ---- two solutions, one after the other

abbrev joined : ℕ → (ℕ → Plain) → (ℕ → Plain) → ℕ → Plain
joined n s t cell = cond (nat_lt cell n) (s cell) (t (cell - n))

joined-old : (n : ℕ) (s t : ℕ → Plain) (cell : ℕ) → cell < n → joined n s t cell ≡ s cell
joined-old n s t cell within = ap (λ b. cond b (s cell) (t (cell - n))) (lt-ltb cell n within)

joined-new : (n : ℕ) (s t : ℕ → Plain) (cell : ℕ) → joined n s t (cell + n) ≡ t cell
joined-new n s t cell = ap (λ b. cond b (s (cell + n)) (t (cell + n - n))) (le-ltb (cell + n) n (omega arith)) ∙ ap t (omega arith)

module _ {N : ℕ} (scheme : Scheme N) (old new : Cells) (is : IsAppended old scheme.cells new) (cells : AreCells scheme)
    (acyclic : (decision : List Side) → IsOf N old.space decision → IsAcyclic (cell_count old) (ends_at old decision))
    (other : (decision : List Side) → IsOf N old.space decision → IsAcyclic (cell_count scheme.cells) (ends_at scheme.cells decision)) where
  abbrev by : ℕ
  by = cell_count old

  abbrev more : ℕ
  more = cell_count scheme.cells

  end_added : (decision : List Side) (cell : ℕ) → cell < more → ends_at new decision (cell + by) ≡ raised_end by (ends_at scheme.cells decision cell)
  end_added decision cell within = ap (ends_at new decision) (omega arith) ∙ is.added decision cell within

  module _ (decision : List Side) where
    Solves-old : (s : ℕ → Plain) → Solves (cell_count new) (ends_at new decision) s → Solves by (ends_at old decision) s
    Solves-old s solves = record {
      well_formed = λ cell within. solves.well_formed cell (omega (arith, is.count));
      fits = λ cell within. subst (Fits s (s cell)) (is.kept decision cell within) (solves.fits cell (omega (arith, is.count)));
    }

    Solves-copy : (s : ℕ → Plain) → Solves (cell_count new) (ends_at new decision) s → Solves more (ends_at scheme.cells decision) (λ cell. s (cell + by))
    Solves-copy s solves = record {
      well_formed = λ cell within. solves.well_formed (cell + by) (omega (arith, is.count));
      fits = λ cell within.
          Fits-lowered s by (s (cell + by)) (ends_at scheme.cells decision cell)
          (subst (Fits s (s (cell + by))) (end_added decision cell within) (solves.fits (cell + by) (omega (arith, is.count))));
    }

    module _ (of : IsOf N old.space decision) (s t : ℕ → Plain) (first : Solves by (ends_at old decision) s) (second : Solves more (ends_at scheme.cells decision) t) where
      joined-well_formed : (cell : ℕ) → cell < cell_count new → IsWellFormed (joined by s t cell)
      joined-well_formed cell within = of_cell (cases_lt cell by)
        where
          of_cell : (cell < by) ⊎ (by ≤ cell) → IsWellFormed (joined by s t cell)
          of_cell (inl lt) = subst IsWellFormed (sym (joined-old by s t cell lt)) (first.well_formed cell lt)
          of_cell (inr le) =
              let place : cell - by + by ≡ cell = omega arith in
              subst (λ own. IsWellFormed (joined by s t own)) place
              (subst IsWellFormed (sym (joined-new by s t (cell - by))) (second.well_formed (cell - by) (omega (arith, is.count))))

      fits-old : (cell : ℕ) → cell < by → Fits (joined by s t) (joined by s t cell) (ends_at new decision cell)
      fits-old cell lt =
          subst (Fits (joined by s t) (joined by s t cell)) (sym (is.kept decision cell lt))
          (subst (λ type. Fits (joined by s t) type (ends_at old decision cell)) (sym (joined-old by s t cell lt))
          (Fits-agree s (joined by s t) by (s cell) (ends_at old decision cell) (joined-old by s t) (EndsWithin-named by (ends_at old decision) by cell (acyclic decision of cell lt)) (first.fits cell lt)))

      fits-new : (cell : ℕ) → cell < more → Fits (joined by s t) (joined by s t (cell + by)) (ends_at new decision (cell + by))
      fits-new cell lt =
          subst (Fits (joined by s t) (joined by s t (cell + by))) (sym (end_added decision cell lt))
          (subst (λ type. Fits (joined by s t) type (raised_end by (ends_at scheme.cells decision cell))) (sym (joined-new by s t cell))
          (Fits-raised t (joined by s t) by more (t cell) (ends_at scheme.cells decision cell) (λ own within. joined-new by s t own) (EndsWithin-named more (ends_at scheme.cells decision) more cell (other decision of cell lt)) (second.fits cell lt)))

      joined-fits : (cell : ℕ) → cell < cell_count new → Fits (joined by s t) (joined by s t cell) (ends_at new decision cell)
      joined-fits cell within = of_cell (cases_lt cell by)
        where
          of_cell : (cell < by) ⊎ (by ≤ cell) → Fits (joined by s t) (joined by s t cell) (ends_at new decision cell)
          of_cell (inl lt) = fits-old cell lt
          of_cell (inr le) =
              let place : cell - by + by ≡ cell = omega arith in
              subst (λ own. Fits (joined by s t) (joined by s t own) (ends_at new decision own)) place (fits-new (cell - by) (omega (arith, is.count)))

      Solves-joined : Solves (cell_count new) (ends_at new decision) (joined by s t)
      Solves-joined = record { well_formed = joined-well_formed; fits = joined-fits }

  module _ (copied : Copied) (monos : copied.monos ≡ map (λ cell. cell + by) scheme.monos) (root : copied.root ≡ scheme.root + by) where
    takes : (decision : List Side) (s : ℕ → Plain) → Solves (cell_count new) (ends_at new decision) s → HasTypes scheme.cells scheme.monos scheme.root decision (map s copied.monos) (s copied.root)
    takes decision s solves = record {
      s = λ cell. s (cell + by);
      solves = Solves-copy decision s solves;
      cells_are = sym (map-map s (λ cell. cell + by) scheme.monos) ∙ ap (map s) (sym monos);
      root_is = ap s (sym root);
    }

    gives : (decision : List Side) → IsOf N old.space decision → (s : ℕ → Plain) → Solves by (ends_at old decision) s → (types : List Plain) (type : Plain)
        → HasTypes scheme.cells scheme.monos scheme.root decision types type → ExtendsSolution copied old new decision s types type
    gives decision of s solves types type allowed = record {
      other = joined by s allowed.s;
      solves = Solves-joined decision of s allowed.s solves allowed.solves;
      agrees = joined-old by s allowed.s;
      monos_are =
          ap (map (joined by s allowed.s)) monos
          ∙ map_moved allowed.s (joined by s allowed.s) (λ cell. cell + by) more scheme.monos (λ own within. joined-new by s allowed.s own) cells.monos
          ∙ allowed.cells_are;
      root_is = ap (joined by s allowed.s) root ∙ joined-new by s allowed.s scheme.root ∙ allowed.root_is;
    }

    pub IsInstanceOf-appended : IsInstanceOf scheme copied old new
    IsInstanceOf-appended = record {
      space = is.space;
      grows = omega (arith, is.count);
      monos =
          subst (All (λ cell. cell < cell_count new)) (sym monos)
          (All-map (λ cell. cell < cell_count new) (λ cell. cell + by) scheme.monos
          (All-weaker (λ cell. cell < more) (λ cell. cell + by < cell_count new) (λ cell lt. omega (arith, is.count)) scheme.monos cells.monos));
      root = omega (arith, root, cells.root, is.count);
      count = ap length monos ∙ length-map scheme.monos (λ cell. cell + by);
      kept = λ decision of s. Solves-old decision s;
      takes = λ decision of. takes decision;
      gives = gives;
    }
