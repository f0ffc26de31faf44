use Rattle.std.proofs.Common.{◌≡◌, ℕ, zero, suc, ◌<◌, Bool, true, false, cond, List, [], ◌∷◌, length, map, refl, ap, sym, subst, ◌∙◌, nat_lt, arith}
use Rattle.std.specs.List.{All}
use Rattle.std.proofs.lemmas.Bool.{lt-ltb, ltb-true}
use Rattle.vt_type.specs.declared.plain.Plain.{Plain, Var, Con}
use Rattle.vt_type.specs.Plain.{kids_of, kid_count, IsWellFormed, AreWellFormed, substituted, kids_substituted}
use Rattle.vt_store.specs.Ends.{CellEnd, Free, Same, Made, EachCell, EndsWithin, IsAcyclic, HasArity, AreArities}
use Rattle.vt_store.specs.Solutions.{plain_kids, Fits, Solves}
use Rattle.vt_store.specs.Laws.{IsMostGeneral}
use Rattle.vt_store.proofs.Cells.{All-head, All-tail, EachCell-each, EachCell-both, map-each, EndsWithin-within}
use Rattle.vt_store.proofs.Solutions.{IsWellFormed-made}

-- the type of a cell by the types of those that it names; an open cell is a variable of its own
abbrev pub type_of : (ℕ → Plain) → ℕ → CellEnd → Plain
type_of s cell Free = Var (cell ∷ [])
type_of s cell (Same other) = s other
type_of s cell (Made head kids) = Con head (plain_kids (map s kids))

-- the type of a cell, as far down as so many cells
abbrev pub solution : (ℕ → CellEnd) → ℕ → ℕ → Plain
solution e zero cell = Var (cell ∷ [])
solution e (suc most) cell = type_of (solution e most) cell (e cell)

pub type_of-same : (s t : ℕ → Plain) (P : ℕ → Type 0) (cell : ℕ) (end : CellEnd) → ((below : ℕ) → P below → s below ≡ t below) → EachCell P end → type_of s cell end ≡ type_of t cell end
type_of-same s t P cell Free same h = refl
type_of-same s t P cell (Same other) same h = same other h
type_of-same s t P cell (Made head kids) same h = ap (λ types. Con head (plain_kids types)) (map-each s t P kids same h)

-- the type does not depend on how far down it goes, where all ends are reached
solution-any : (n : ℕ) (e : ℕ → CellEnd) (one other cell : ℕ) → EndsWithin n e one cell → EndsWithin n e other cell → solution e one cell ≡ solution e other cell
solution-any n e zero other cell h g = absurd h
solution-any n e (suc one) zero cell h g = absurd g
solution-any n e (suc one) (suc other) cell h g =
    type_of-same (solution e one) (solution e other) (λ below. EndsWithin n e one below × EndsWithin n e other below) cell (e cell)
    (λ below both. solution-any n e one other below both.0 both.1)
    (EachCell-both (EndsWithin n e one) (EndsWithin n e other) (e cell) h.1 g.1)

pub type_of-well_formed : (s : ℕ → Plain) (cell : ℕ) (end : CellEnd) → HasArity end → EachCell (λ below. IsWellFormed (s below)) end → IsWellFormed (type_of s cell end)
type_of-well_formed s cell Free arity h = tt
type_of-well_formed s cell (Same other) arity h = h
type_of-well_formed s cell (Made head kids) arity h =
    IsWellFormed-made s head kids arity h

solution-well_formed : (n : ℕ) (e : ℕ → CellEnd) → AreArities n e → (most cell : ℕ) → EndsWithin n e most cell → IsWellFormed (solution e most cell)
solution-well_formed n e arities zero cell h = absurd h
solution-well_formed n e arities (suc most) cell h =
    type_of-well_formed (solution e most) cell (e cell) (arities cell h.0)
    (EachCell-each (EndsWithin n e most) (λ below. IsWellFormed (solution e most below)) (e cell) (λ below. solution-well_formed n e arities most below) h.1)

pub type_of-fits : (s : ℕ → Plain) (cell : ℕ) (end : CellEnd) → Fits s (type_of s cell end) end
type_of-fits s cell Free = tt
type_of-fits s cell (Same other) = refl
type_of-fits s cell (Made head kids) = refl

-- an end that is deeper down gives the same types
deeper : (n : ℕ) (e : ℕ → CellEnd) → IsAcyclic n e → (most cell : ℕ) → EndsWithin n e (suc most) cell → type_of (solution e most) cell (e cell) ≡ type_of (solution e n) cell (e cell)
deeper n e acyclic most cell h =
    type_of-same (solution e most) (solution e n) (EndsWithin n e most) cell (e cell)
    (λ below g. solution-any n e most n below g (acyclic below (EndsWithin-within n e most below g))) h.1

solution-type_of : (n : ℕ) (e : ℕ → CellEnd) → IsAcyclic n e → (most cell : ℕ) → EndsWithin n e most cell → solution e most cell ≡ type_of (solution e n) cell (e cell)
solution-type_of n e acyclic zero cell h = absurd h
solution-type_of n e acyclic (suc most) cell h = deeper n e acyclic most cell h

pub solution-solves : (n : ℕ) (e : ℕ → CellEnd) → IsAcyclic n e → AreArities n e → Solves n e (solution e n)
solution-solves n e acyclic arities = record {
  well_formed = λ cell within. solution-well_formed n e arities n cell (acyclic cell within);
  fits = λ cell within. subst (λ type. Fits (solution e n) type (e cell)) (sym (solution-type_of n e acyclic n cell (acyclic cell within))) (type_of-fits (solution e n) cell (e cell));
}

-- the variable of a cell is replaced by the type that another solution gives the cell
abbrev image : ℕ → (ℕ → Plain) → List ℕ → Plain
image n other [] = Var []
image n other (cell ∷ name) = cond (nat_lt cell n) (other cell) (Var [])

kids_substituted-plain_kids : (images : List ℕ → Plain) (s t : ℕ → Plain) (kids : List ℕ) → All (λ kid. substituted images (s kid) ≡ t kid) kids → kids_substituted images (plain_kids (map s kids)) ≡ plain_kids (map t kids)
kids_substituted-plain_kids images s t [] h = refl
kids_substituted-plain_kids images s t (kid ∷ kids) h =
    let here = All-head (λ own. substituted images (s own) ≡ t own) kid kids h in
    let rest = kids_substituted-plain_kids images s t kids (All-tail (λ own. substituted images (s own) ≡ t own) kid kids h) in
    λ i. kids_of (here i) (rest i)

type_of-instance : (images : List ℕ → Plain) (s t : ℕ → Plain) (cell : ℕ) (end : CellEnd) → images (cell ∷ []) ≡ t cell → Fits t (t cell) end → EachCell (λ below. substituted images (s below) ≡ t below) end
    → substituted images (type_of s cell end) ≡ t cell
type_of-instance images s t cell Free own fits h = own
type_of-instance images s t cell (Same other) own fits h = h ∙ sym fits
type_of-instance images s t cell (Made head kids) own fits h =
    ap (Con head) (kids_substituted-plain_kids images s t kids h) ∙ sym fits

module _ (n : ℕ) (e : ℕ → CellEnd) (other : ℕ → Plain) (solves : Solves n e other) where
  image-own : (cell : ℕ) → cell < n → image n other (cell ∷ []) ≡ other cell
  image-own cell within = ap (λ b. cond b (other cell) (Var [])) (lt-ltb cell n within)

  image-well_formed : (name : List ℕ) → IsWellFormed (image n other name)
  image-well_formed [] = tt
  image-well_formed (cell ∷ name) = by (nat_lt cell n) refl
    where
      by : (b : Bool) → nat_lt cell n ≡ b → IsWellFormed (cond b (other cell) (Var []))
      by true e = solves.well_formed cell (ltb-true cell n e)
      by false e = tt

  solution-instance : (most cell : ℕ) → EndsWithin n e most cell → substituted (image n other) (solution e most cell) ≡ other cell
  solution-instance zero cell h = absurd h
  solution-instance (suc most) cell h =
      type_of-instance (image n other) (solution e most) other cell (e cell) (image-own cell h.0) (solves.fits cell h.0)
      (EachCell-each (EndsWithin n e most) (λ below. substituted (image n other) (solution e most below) ≡ other below) (e cell) (solution-instance most) h.1)

  pub solution-most_general : IsAcyclic n e → IsMostGeneral n e (solution e n) other
  solution-most_general acyclic = record { images = image n other; well_formed = image-well_formed; same = λ cell within. solution-instance n cell (acyclic cell within) }

-- an open cell is a variable named by its number
pub solution-open : (n : ℕ) (e : ℕ → CellEnd) → IsAcyclic n e → (cell : ℕ) → cell < n → e cell ≡ Free → solution e n cell ≡ Var (cell ∷ [])
solution-open n e acyclic cell within free = solution-type_of n e acyclic n cell (acyclic cell within) ∙ ap (type_of (solution e n) cell) free
