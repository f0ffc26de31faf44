use Rattle.std.proofs.Common.{◌≡◌, ℕ, zero, suc, ◌+◌, ◌-◌, ◌*◌, ◌<◌, List, length, map, get_or, replicate, refl, ap, sym, subst, ◌∙◌, inl, inr, arith}
use Rattle.std.specs.List.{All, range_with_len}
use Rattle.std.proofs.lemmas.List.FromFn.{length-map-range_with_len, get_or-map-range_with_len}
use Rattle.std.proofs.lemmas.List.{length-replicate}
use Rattle.std.proofs.lemmas.List.Elements.{All-from_get_or}
use Rattle.std.proofs.lemmas.Option.{slice_get-get_or}
use Rattle.vt_dec.specs.declared.side.Side.{Side}
use Rattle.vt_dec.specs.declared.side.Side.TheVariants.{Left}
use Rattle.vt_dec.specs.declared.side.Space.{Space}
use Rattle.vt_dec.specs.declared.side.Space.TheVariants.{All as AllOf, AtMost}
use Rattle.vt_dec.specs.Decisions.{IsIn, rights}
use Rattle.vt_store.specs.Ends.{CellEnd, Same, EachCell, EndsWithin}
use Rattle.vt_store.specs.declared.diagram.Diagram.{Diagram, Open, Link, Con}
use Rattle.vt_store.specs.Diagrams.{choice, end_in, HasCells}
use Rattle.vt_store.specs.Stores.{Cells, cell_count, end_of, ends_at, IsStore}
use Rattle.vt_store.specs.Sharing.{diagram_of, MayStand, AreNames, AreStraight, next_cell, followed}

-- The cell at which links end.

-- ---- one more link is followed

-- a link, or a cell from which no link leads on
data IsNext (diagram : Diagram) (cell : ℕ) : Type 0 where
  onward : (next : ℕ) → diagram ≡ Link next → IsNext diagram cell
  still : next_cell diagram cell ≡ cell → IsNext diagram cell

next_of : (diagram : Diagram) (cell : ℕ) → IsNext diagram cell
next_of Open cell = still refl
next_of (Link next) cell = onward next refl
next_of (Con head kids) cell = still refl
next_of (choice dim left right) cell = still refl

pub followed-still : (diagrams : List Diagram) (most cell : ℕ) → next_cell (diagram_of diagrams cell) cell ≡ cell → followed diagrams most cell ≡ cell
followed-still diagrams zero cell same = refl
followed-still diagrams (suc most) cell same = ap (followed diagrams most) same ∙ followed-still diagrams most cell same

pub followed-on : (diagrams : List Diagram) (most cell next : ℕ) → diagram_of diagrams cell ≡ Link next → followed diagrams (suc most) cell ≡ followed diagrams most next
followed-on diagrams most cell next is = ap (λ own. followed diagrams most (next_cell own cell)) is

pub next_within : (count : ℕ) (diagram : Diagram) (cell : ℕ) → cell < count → HasCells count diagram → next_cell diagram cell < count
next_within count Open cell within h = within
next_within count (Link next) cell within h = h
next_within count (Con head kids) cell within h = within
next_within count (choice dim left right) cell within h = within

pub followed-within : (diagrams : List Diagram) → All (HasCells (length diagrams)) diagrams → (most cell : ℕ) → cell < length diagrams → followed diagrams most cell < length diagrams
followed-within diagrams good zero cell within = within
followed-within diagrams good (suc most) cell within =
    followed-within diagrams good most (next_cell (diagram_of diagrams cell) cell) (next_within (length diagrams) (diagram_of diagrams cell) cell within (good cell Open within))

-- a link is followed on the way
pub followed-step : (diagrams : List Diagram) (most done last next end : ℕ) → done < most → diagram_of diagrams last ≡ Link next → followed diagrams (most - done) last ≡ end → followed diagrams (most - (done + 1)) next ≡ end
followed-step diagrams most done last next end below is same =
    let one : most - done ≡ suc (most - (done + 1)) = omega (arith, below) in
    sym (followed-on diagrams (most - (done + 1)) last next is) ∙ sym (ap (λ own. followed diagrams own last) one) ∙ same

-- no link leads on
pub followed-end : (diagrams : List Diagram) (most last end : ℕ) → ((next : ℕ) → diagram_of diagrams last ≡ Link next → ⊥) → followed diagrams most last ≡ end → last ≡ end
followed-end diagrams most last end none same = by (next_of (diagram_of diagrams last) last)
  where
    by : IsNext (diagram_of diagrams last) last → last ≡ end
    by (onward next is) = absurd (none next is)
    by (still stays) = sym (followed-still diagrams most last stays) ∙ same

-- names that were made one after another
pub AreStraight-all : (diagrams : List Diagram) (names : List ℕ) → names ≡ map (followed diagrams (length diagrams)) (range_with_len 0 (length diagrams)) → AreStraight diagrams names
AreStraight-all diagrams names are = record {
  sized = ap length are ∙ length-map-range_with_len (followed diagrams (length diagrams)) 0 (length diagrams);
  each = λ cell inside.
      ap (λ own. get_or own cell 0) are
      ∙ get_or-map-range_with_len (followed diagrams (length diagrams)) 0 (length diagrams) cell cell 0 inside (omega arith);
}

-- ---- in a store the links end

-- every dimension Left
IsIn-left : (space : Space) (count : ℕ) → IsIn space (replicate count Left)
IsIn-left AllOf count = tt
IsIn-left (AtMost k) count = let none = rights-left count in omega (arith, none)
  where
    rights-left : (count : ℕ) → rights (replicate count Left) ≡ 0
    rights-left zero = refl
    rights-left (suc count) = rights-left count

module _ (N : ℕ) (whole : Cells) (good : IsStore N whole) where
  left : List Side
  left = replicate (64 * N) Left

  e : ℕ → CellEnd
  e = ends_at whole left

  end_of_link : (cell next : ℕ) → cell < cell_count whole → diagram_of whole.cells cell ≡ Link next → e cell ≡ Same next
  unfolding e
  end_of_link cell next within is = ap (end_of left) (slice_get-get_or whole.cells cell Open within) ∙ ap (end_in left) is

  -- from a cell from which there are at most so many cells on the way, one more link leads no further
  enough : (most cell : ℕ) → EndsWithin (cell_count whole) e most cell → followed whole.cells most cell ≡ followed whole.cells (suc most) cell
  enough zero cell h = absurd h
  enough (suc most) cell h = by (next_of (diagram_of whole.cells cell) cell) (enough most)
    where
      by : IsNext (diagram_of whole.cells cell) cell → ((below : ℕ) → EndsWithin (cell_count whole) e most below → followed whole.cells most below ≡ followed whole.cells (suc most) below)
          → followed whole.cells (suc most) cell ≡ followed whole.cells (suc (suc most)) cell
      by (onward next is) step =
          followed-on whole.cells most cell next is
          ∙ step next (subst (EachCell (EndsWithin (cell_count whole) e most)) (end_of_link cell next h.0 is) h.1)
          ∙ sym (followed-on whole.cells (suc most) cell next is)
      by (still same) step = followed-still whole.cells (suc most) cell same ∙ sym (followed-still whole.cells (suc (suc most)) cell same)

  cells_at : All (HasCells (cell_count whole)) whole.cells
  cells_at k d within = (good.diagrams k d within).cells

  pub AreNames-straight : (names : List ℕ) → AreStraight whole.cells names → AreNames whole.cells names
  unfolding left e
  AreNames-straight names straight = record {
    sized = straight.sized;
    cells = All-from_get_or (λ name. name < cell_count whole) names 0 (λ cell within.
        (let inside : cell < cell_count whole = omega (arith, straight.sized) in
        subst (λ name. name < cell_count whole) (sym (straight.each cell inside)) (followed-within whole.cells cells_at (cell_count whole) cell inside)));
    stand = λ cell within. by cell within (next_of (diagram_of whole.cells cell) cell);
  }
    where
      acyclic : (cell : ℕ) → cell < cell_count whole → EndsWithin (cell_count whole) (ends_at whole (replicate (64 * N) Left)) (cell_count whole) cell
      acyclic = good.acyclic (replicate (64 * N) Left) (record { sized = length-replicate (64 * N) Left; inside = IsIn-left whole.space (64 * N) })

      by : (cell : ℕ) → cell < cell_count whole → IsNext (diagram_of whole.cells cell) cell → MayStand whole.cells names cell (get_or names cell 0)
      by cell within (still same) = inl (straight.each cell within ∙ followed-still whole.cells (cell_count whole) cell same)
      by cell within (onward next is) =
          let inside : next < cell_count whole = subst (HasCells (cell_count whole)) is (cells_at cell Open within) in
          inr (inl (record {
            next = next;
            is = is;
            same =
                straight.each next inside
                ∙ sym (followed-on whole.cells (cell_count whole) cell next is)
                ∙ sym (enough (cell_count whole) cell (acyclic cell within))
                ∙ sym (straight.each cell within);
          }))
