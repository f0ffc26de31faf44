use Rattle.std.proofs.Common.{◌≡◌, ◌⊎◌, inl, inr, ℕ, ◌+◌, ◌<◌, cond, nat_lt, List, [], ◌∷◌, map, refl, ap, sym, subst, ◌∙◌, arith}
use Rattle.std.specs.List.{All}
use Rattle.std.proofs.lemmas.Bool.{lt-ltb, le-ltb, cases_eq}
use Rattle.std.proofs.lemmas.List.Elements.{All-head, All-tail}
use Rattle.vt_type.specs.declared.plain.Plain.{Plain, Con}
use Rattle.vt_type.specs.Plain.{IsWellFormed}
use Rattle.vt_store.specs.Ends.{CellEnd, Free, Same, Made, EachCell, IsAcyclic}
use Rattle.vt_store.specs.Solutions.{plain_kids, Fits, Solves}
use Rattle.vt_store.proofs.Cells.{IsAcyclic-named}
use Rattle.vt_infer.specs.Steps.{Agree, Adds}

-- A store with one more cell, at one decision: what that does to its solutions.

pub map-agrees : (n : ℕ) (s other : ℕ → Plain) (cells : List ℕ) → All (λ cell. cell < n) cells → Agree n s other → map other cells ≡ map s cells
map-agrees n s other [] inside agree = refl
map-agrees n s other (cell ∷ cells) inside agree =
    let here = agree cell (All-head (λ own. own < n) cell cells inside) in
    let rest = map-agrees n s other cells (All-tail (λ own. own < n) cell cells inside) agree in
    λ i. here i ∷ rest i

-- what fits an end fits it where the cells that it names have the same types
pub Fits-agrees : (n : ℕ) (s other : ℕ → Plain) (type : Plain) (end : CellEnd) → EachCell (λ cell. cell < n) end → Agree n s other → Fits s type end → Fits other type end
Fits-agrees n s other type Free inside agree fits = tt
Fits-agrees n s other type (Same cell) inside agree fits = fits ∙ sym (agree cell inside)
Fits-agrees n s other type (Made head kids) inside agree fits = fits ∙ ap (λ types. Con head (plain_kids types)) (sym (map-agrees n s other kids inside agree))

-- the types of so many cells, and one type for all that come later
abbrev pub extended : ℕ → (ℕ → Plain) → Plain → ℕ → Plain
extended n s type cell = cond (nat_lt cell n) (s cell) type

pub extended-old : (n : ℕ) (s : ℕ → Plain) (type : Plain) → Agree n s (extended n s type)
extended-old n s type cell inside = ap (λ b. cond b (s cell) type) (lt-ltb cell n inside)

pub extended-new : (n : ℕ) (s : ℕ → Plain) (type : Plain) → extended n s type n ≡ type
extended-new n s type = ap (λ b. cond b (s n) type) (le-ltb n n (omega arith))

module _ (n m : ℕ) (e later : ℕ → CellEnd) (count : m ≡ n + 1) (acyclic : IsAcyclic n e) (kept : (cell : ℕ) → cell < n → later cell ≡ e cell) where
  pub solves_old : (s : ℕ → Plain) → Solves m later s → Solves n e s
  solves_old s solves = record {
    well_formed = λ cell inside. solves.well_formed cell (omega arith);
    fits = λ cell inside. subst (Fits s (s cell)) (kept cell inside) (solves.fits cell (omega arith));
  }

  pub solves_new : (s : ℕ → Plain) (type : Plain) → Solves n e s → IsWellFormed type → EachCell (λ cell. cell < n) (later n) → Fits s type (later n) → Solves m later (extended n s type)
  solves_new s type solves well_formed inside fits = record {
    well_formed = λ cell within. formed cell within (cases_eq cell n);
    fits = λ cell within. fitting cell within (cases_eq cell n);
  }
    where
      formed : (cell : ℕ) → cell < m → (cell ≡ n) ⊎ (cell ≡ n → ⊥) → IsWellFormed (extended n s type cell)
      formed cell within (inl same) = subst (λ own. IsWellFormed (extended n s type own)) (sym same) (subst IsWellFormed (sym (extended-new n s type)) well_formed)
      formed cell within (inr other) =
          let inside : cell < n = omega arith in
          subst IsWellFormed (sym (extended-old n s type cell inside)) (solves.well_formed cell inside)

      at_new : Fits (extended n s type) (extended n s type n) (later n)
      at_new = Fits-agrees n s (extended n s type) (extended n s type n) (later n) inside (extended-old n s type) (subst (λ own. Fits s own (later n)) (sym (extended-new n s type)) fits)

      at_old : (cell : ℕ) → cell < n → Fits (extended n s type) (extended n s type cell) (later cell)
      at_old cell old =
          subst (Fits (extended n s type) (extended n s type cell)) (sym (kept cell old))
          (Fits-agrees n s (extended n s type) (extended n s type cell) (e cell) (IsAcyclic-named n e acyclic cell old) (extended-old n s type)
          (subst (λ own. Fits s own (e cell)) (sym (extended-old n s type cell old)) (solves.fits cell old)))

      fitting : (cell : ℕ) → cell < m → (cell ≡ n) ⊎ (cell ≡ n → ⊥) → Fits (extended n s type) (extended n s type cell) (later cell)
      fitting cell within (inl same) = subst (λ own. Fits (extended n s type) (extended n s type own) (later own)) (sym same) at_new
      fitting cell within (inr other) = at_old cell (omega arith)

  -- a new cell whose end fits exactly these types
  pub adds_one : (P : (ℕ → Plain) → Plain → Type 0) → EachCell (λ cell. cell < n) (later n)
      → ((s : ℕ → Plain) (type : Plain) → Solves n e s → IsWellFormed type → Fits s type (later n) → P s type)
      → ((s : ℕ → Plain) (type : Plain) → Solves n e s → P s type → IsWellFormed type × Fits s type (later n))
      → Adds n m (Solves n e) (Solves m later) n P
  adds_one P inside gives takes = record {
    grows = omega arith;
    is_cell = omega arith;
    old = solves_old;
    related = λ s solves. gives s (s n) (solves_old s solves) (solves.well_formed n (omega arith)) (solves.fits n (omega arith));
    taken = λ s type solves has.
        let fits = takes s type solves has in
        (extended n s type, solves_new s type solves fits.0 inside fits.1, extended-old n s type, extended-new n s type);
  }
