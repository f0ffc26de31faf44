use Rattle.std.proofs.Common.{◌≡◌, ◌⊎◌, ℕ, zero, suc, ◌<◌, List, [], ◌∷◌, map, refl, ap, sym, subst, ◌∙◌, inl, inr, arith}
use Rattle.std.specs.List.{All}
use Rattle.std.proofs.lemmas.Bool.{cases_eq, cases_lt}
use Rattle.std.proofs.lemmas.Simd.{map-map}
use Rattle.vt_type.specs.declared.plain.Plain.{Plain, Var, Con}
use Rattle.vt_type.specs.Plain.{IsWellFormed}
use Rattle.vt_store.specs.Ends.{CellEnd, Free, Same, Made, EachCell, EndsWithin, IsAcyclic, AreArities, mapped_end}
use Rattle.vt_store.specs.Solutions.{plain_kids, Fits, Solves}
use Rattle.vt_store.specs.Parts.{IsPartOf}
use Rattle.vt_store.specs.Laws.{Widens}
use Rattle.vt_store.proofs.Cells.{All-head, All-tail, EachCell-each, EachCell-both, EndsWithin-within}
use Rattle.vt_store.proofs.MostGeneral.{type_of, type_of-same, type_of-well_formed, type_of-fits}

-- A solution of a part, and one of the whole.

pub Fits-narrow : (t : ℕ → Plain) (origin : ℕ → ℕ) (type : Plain) (end : CellEnd) → Fits t type (mapped_end origin end) → Fits (λ cell. t (origin cell)) type end
Fits-narrow t origin type Free h = tt
Fits-narrow t origin type (Same cell) h = h
Fits-narrow t origin type (Made head kids) h = h ∙ ap (λ types. Con head (plain_kids types)) (map-map t origin kids)

pub types-same : (s t : ℕ → Plain) (origin : ℕ → ℕ) (P : ℕ → Type 0) (kids : List ℕ) → ((cell : ℕ) → P cell → t (origin cell) ≡ s cell) → All P kids → map s kids ≡ map t (map origin kids)
types-same s t origin P [] same h = refl
types-same s t origin P (kid ∷ kids) same h =
    let here = sym (same kid (All-head P kid kids h)) in
    let rest = types-same s t origin P kids same (All-tail P kid kids h) in
    λ i. here i ∷ rest i

Fits-widen : (s t : ℕ → Plain) (origin : ℕ → ℕ) (P : ℕ → Type 0) (type : Plain) (end : CellEnd) → ((cell : ℕ) → P cell → t (origin cell) ≡ s cell) → EachCell P end → Fits s type end → Fits t type (mapped_end origin end)
Fits-widen s t origin P type Free same closed h = tt
Fits-widen s t origin P type (Same cell) same closed h = h ∙ sym (same cell closed)
Fits-widen s t origin P type (Made head kids) same closed h = h ∙ ap (λ types. Con head (plain_kids types)) (types-same s t origin P kids same closed)

-- the place of a cell of the whole in the part, if it has one
abbrev Place : (ℕ → Type 0) → (ℕ → ℕ) → ℕ → ℕ → Type 0
Place P origin count cell = (place : ℕ) × (place < count) × P place × (origin place ≡ cell)

place_before : (P : ℕ → Type 0) (origin : ℕ → ℕ) (count cell : ℕ) → (P count → origin count ≡ cell → ⊥) → Place P origin (suc count) cell → Place P origin count cell
place_before P origin count cell last found = by (cases_eq found.0 count)
  where
    by : (found.0 ≡ count) ⊎ (found.0 ≡ count → ⊥) → Place P origin count cell
    by (inl e) = absurd (last (subst P e found.2) (ap origin (sym e) ∙ found.3))
    by (inr e) = (found.0, omega (arith, found.1), found.2, found.3)

place_of : (P : ℕ → Type 0) (origin : ℕ → ℕ) → ((cell : ℕ) → P cell ⊎ (P cell → ⊥)) → (count cell : ℕ) → Place P origin count cell ⊎ (Place P origin count cell → ⊥)
place_of P origin decided zero cell = inr (λ found. omega (arith, found.1))
place_of P origin decided (suc count) cell = by (decided count) (cases_eq (origin count) cell) (place_of P origin decided count cell)
  where
    by : P count ⊎ (P count → ⊥) → (origin count ≡ cell) ⊎ (origin count ≡ cell → ⊥) → Place P origin count cell ⊎ (Place P origin count cell → ⊥)
        → Place P origin (suc count) cell ⊎ (Place P origin (suc count) cell → ⊥)
    by has same (inl found) = inl (found.0, omega (arith, found.1), found.2, found.3)
    by (inl has) (inl same) (inr none) = inl (count, omega arith, has, same)
    by (inl has) (inr other) (inr none) = inr (λ found. none (place_before P origin count cell (λ own same. other same) found))
    by (inr lacks) same (inr none) = inr (λ found. none (place_before P origin count cell (λ own of. lacks own) found))

-- a cell that has a place takes the type that stands there, and another one its own
abbrev picked : (P : ℕ → Type 0) (origin : ℕ → ℕ) (count cell : ℕ) → (ℕ → Plain) → Place P origin count cell ⊎ (Place P origin count cell → ⊥) → Plain → Plain
picked P origin count cell s (inl found) type = s found.0
picked P origin count cell s (inr none) type = type

-- A part of the cells that have a property: types of its own that fit there are those of a solution of the whole.
module _ (count all : ℕ) (P : ℕ → Type 0) (part whole : ℕ → CellEnd) (origin : ℕ → ℕ)
    (decided : (cell : ℕ) → P cell ⊎ (P cell → ⊥)) (inside : (cell : ℕ) → P cell → cell < count) (within : (cell : ℕ) → P cell → origin cell < all)
    (different : (one other : ℕ) → P one → P other → origin one ≡ origin other → one ≡ other) (closed : (cell : ℕ) → P cell → EachCell P (part cell))
    (ends : (cell : ℕ) → P cell → whole (origin cell) ≡ mapped_end origin (part cell)) (acyclic : IsAcyclic all whole) (arities : AreArities all whole)
    (s : ℕ → Plain) (well_formed : (cell : ℕ) → P cell → IsWellFormed (s cell)) (fits : (cell : ℕ) → P cell → Fits s (s cell) (part cell)) where
  -- the type of a cell of the whole, as far down as so many cells
  abbrev wide : ℕ → ℕ → Plain
  wide zero cell = Var []
  wide (suc most) cell = picked P origin count cell s (place_of P origin decided count cell) (type_of (wide most) cell (whole cell))

  wide-any : (one other cell : ℕ) → EndsWithin all whole one cell → EndsWithin all whole other cell → wide one cell ≡ wide other cell
  wide-any zero other cell h g = absurd h
  wide-any (suc one) zero cell h g = absurd g
  wide-any (suc one) (suc other) cell h g =
      ap (picked P origin count cell s (place_of P origin decided count cell))
      (type_of-same (wide one) (wide other) (λ below. EndsWithin all whole one below × EndsWithin all whole other below) cell (whole cell)
      (λ below both. wide-any one other below both.0 both.1)
      (EachCell-both (EndsWithin all whole one) (EndsWithin all whole other) (whole cell) h.1 g.1))

  wide-well_formed : (most cell : ℕ) → EndsWithin all whole most cell → IsWellFormed (wide most cell)
  wide-well_formed zero cell h = absurd h
  wide-well_formed (suc most) cell h =
      by (place_of P origin decided count cell)
      (type_of-well_formed (wide most) cell (whole cell) (arities cell h.0)
      (EachCell-each (EndsWithin all whole most) (λ below. IsWellFormed (wide most below)) (whole cell) (λ below. wide-well_formed most below) h.1))
    where
      by : (place : Place P origin count cell ⊎ (Place P origin count cell → ⊥)) → IsWellFormed (type_of (wide most) cell (whole cell)) → IsWellFormed (picked P origin count cell s place (type_of (wide most) cell (whole cell)))
      by (inl found) own = well_formed found.0 found.2
      by (inr none) own = own

  -- a cell of the part has the type that it has there
  wide-place : (most cell place : ℕ) → EndsWithin all whole most cell → P place → origin place ≡ cell → wide most cell ≡ s place
  wide-place zero cell place h has same = absurd h
  wide-place (suc most) cell place h has same = by (place_of P origin decided count cell)
    where
      by : (found : Place P origin count cell ⊎ (Place P origin count cell → ⊥)) → picked P origin count cell s found (type_of (wide most) cell (whole cell)) ≡ s place
      by (inl found) = ap s (different found.0 place found.2 has (found.3 ∙ sym same))
      by (inr none) = absurd (none (place, inside place has, has, same))

  wide-origin : (cell : ℕ) → P cell → wide all (origin cell) ≡ s cell
  wide-origin cell has = wide-place all (origin cell) cell (acyclic (origin cell) (within cell has)) has refl

  wide-fits : (most cell : ℕ) → EndsWithin all whole most cell → Fits (wide all) (wide most cell) (whole cell)
  wide-fits zero cell h = absurd h
  wide-fits (suc most) cell h = by (place_of P origin decided count cell)
    where
      deeper : type_of (wide most) cell (whole cell) ≡ type_of (wide all) cell (whole cell)
      deeper =
          type_of-same (wide most) (wide all) (EndsWithin all whole most) cell (whole cell)
          (λ below g. wide-any most all below g (acyclic below (EndsWithin-within all whole most below g))) h.1

      by : (found : Place P origin count cell ⊎ (Place P origin count cell → ⊥)) → Fits (wide all) (picked P origin count cell s found (type_of (wide most) cell (whole cell))) (whole cell)
      by (inl found) =
          subst (Fits (wide all) (s found.0)) (sym (ends found.0 found.2) ∙ ap whole found.3)
          (Fits-widen s (wide all) origin P (s found.0) (part found.0) wide-origin (closed found.0 found.2) (fits found.0 found.2))
      by (inr none) = subst (λ type. Fits (wide all) type (whole cell)) (sym deeper) (type_of-fits (wide all) cell (whole cell))

  pub carried : (wide : ℕ → Plain) × Solves all whole wide × ((cell : ℕ) → P cell → wide (origin cell) ≡ s cell)
  carried = (
    wide all,
    record {
      well_formed = λ cell below. wide-well_formed all cell (acyclic cell below);
      fits = λ cell below. wide-fits all cell (acyclic cell below);
    },
    wide-origin,
  )

module _ (count all : ℕ) (part whole : ℕ → CellEnd) (origin : ℕ → ℕ) (is : IsPartOf count part all whole origin) (acyclic : IsAcyclic all whole) (arities : AreArities all whole) where
  pub Solves-narrow : (t : ℕ → Plain) → Solves all whole t → Solves count part (λ cell. t (origin cell))
  Solves-narrow t solves = record {
    well_formed = λ cell within. solves.well_formed (origin cell) (is.within cell within);
    fits = λ cell within. Fits-narrow t origin (t (origin cell)) (part cell) (subst (Fits t (t (origin cell))) (is.ends cell within) (solves.fits (origin cell) (is.within cell within)));
  }

  pub Solves-widen : (s : ℕ → Plain) → Solves count part s → Widens count all whole origin s
  Solves-widen s solves = record { wide = found.0; solves = found.1; same = found.2 }
    where
      below : (cell : ℕ) → (cell < count) ⊎ (cell < count → ⊥)
      below cell = elim (cases_lt cell count) [ inl lt ↦ inl lt | inr le ↦ inr (λ lt. omega arith) ]

      found : (wide : ℕ → Plain) × Solves all whole wide × ((cell : ℕ) → cell < count → wide (origin cell) ≡ s cell)
      found = carried count all (λ cell. cell < count) part whole origin below (λ cell within. within) is.within is.different is.closed is.ends acyclic arities s solves.well_formed solves.fits
