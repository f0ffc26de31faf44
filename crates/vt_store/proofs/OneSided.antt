use Rattle.std.proofs.Common.{◌≡◌, ◌⊎◌, ℕ, zero, suc, ◌+◌, ◌<◌, ◌≤◌, refl, ap, sym, subst, inl, inr, arith, map-id}
use Rattle.vt_type.specs.declared.plain.Plain.{Plain}
use Rattle.vt_store.specs.Ends.{CellEnd, Free, Same, Made, EachCell, EndsWithin, IsAcyclic, AreArities, mapped_end}
use Rattle.vt_store.specs.Solutions.{Fits, Solves}
use Rattle.vt_store.proofs.Cells.{EndsWithin-more, EachCell-both}
use Rattle.vt_store.proofs.Acyclic.{EndsWithin-tight}
use Rattle.vt_store.proofs.StandingIn.{each-named}
use Rattle.vt_store.proofs.Widening.{Fits-narrow, carried}

-- At one decision: the cells of a new store are those that are reached here, and those that are reached at another decision and not here.
pub record IsOneSided (n : ℕ) (e other later : ℕ → CellEnd) (name : ℕ → ℕ) (Here There : ℕ → Type 0) : Type 0 where
  pub inside : (cell : ℕ) → Here cell → cell < n
  pub within : (cell : ℕ) → cell < n → name cell < n
  pub decided : (cell : ℕ) → Here cell ⊎ (Here cell → ⊥)
  pub closed : (cell : ℕ) → Here cell → EachCell Here (e cell)
  pub there_closed : (cell : ℕ) → There cell → EachCell There (other cell)
  pub different : (one two : ℕ) → Here one → Here two → name one ≡ name two → one ≡ two
  pub here : (cell : ℕ) → Here cell → later (name cell) ≡ mapped_end name (e cell)
  pub there : (cell : ℕ) → There cell → (Here cell → ⊥) → later (name cell) ≡ mapped_end name (other cell)
  pub rest : (cell : ℕ) → cell < n → (later cell ≡ Free) ⊎ ((name cell ≡ cell) × (Here cell ⊎ There cell))

mapped_end-itself : (end : CellEnd) → mapped_end (λ cell. cell) end ≡ end
mapped_end-itself Free = refl
mapped_end-itself (Same cell) = refl
mapped_end-itself (Made head kids) = ap (Made head) (map-id kids)

module _ (n : ℕ) (e other later : ℕ → CellEnd) (name : ℕ → ℕ) (Here There : ℕ → Type 0) (is : IsOneSided n e other later name Here There) where
  -- ---- no cell contains itself

  EndsWithin-here : (most cell : ℕ) → Here cell → EndsWithin n e most cell → EndsWithin n later most (name cell)
  EndsWithin-here zero cell has h = absurd h
  EndsWithin-here (suc most) cell has h = (
    is.within cell h.0,
    subst (EachCell (EndsWithin n later most)) (sym (is.here cell has))
        (each-named (λ below. Here below × EndsWithin n e most below) (EndsWithin n later most) name (e cell) (λ below both. EndsWithin-here most below both.0 both.1)
        (EachCell-both Here (EndsWithin n e most) (e cell) (is.closed cell has) h.1)),
  )

  -- from a cell that is reached here on, the way down is one of those here
  EndsWithin-there : IsAcyclic n e → (most all cell : ℕ) → most + n ≤ all → There cell → EndsWithin n other most cell → EndsWithin n later all (name cell)
  EndsWithin-there acyclic zero all cell le has h = absurd h
  EndsWithin-there acyclic (suc most) zero cell le has h = absurd (omega arith)
  EndsWithin-there acyclic (suc most) (suc all) cell le has h = by (is.decided cell) (λ below. EndsWithin-there acyclic most all below (omega arith))
    where
      by : Here cell ⊎ (Here cell → ⊥) → ((below : ℕ) → There below → EndsWithin n other most below → EndsWithin n later all (name below)) → EndsWithin n later (suc all) (name cell)
      by (inl own) step = EndsWithin-more n later n (suc all) (name cell) (omega arith) (EndsWithin-here n cell own (acyclic cell h.0))
      by (inr lacks) step = (
        is.within cell h.0,
        subst (EachCell (EndsWithin n later all)) (sym (is.there cell has lacks))
            (each-named (λ below. There below × EndsWithin n other most below) (EndsWithin n later all) name (other cell) (λ below both. step below both.0 both.1)
            (EachCell-both There (EndsWithin n other most) (other cell) (is.there_closed cell has) h.1)),
      )

  pub IsAcyclic-one_sided : IsAcyclic n e → IsAcyclic n other → IsAcyclic n later
  IsAcyclic-one_sided acyclic acyclic_there cell inside = by (is.rest cell inside)
    where
      by : (later cell ≡ Free) ⊎ ((name cell ≡ cell) × (Here cell ⊎ There cell)) → EndsWithin n later n cell
      by (inl free) = EndsWithin-tight n later (suc zero) cell (inside, subst (EachCell (EndsWithin n later zero)) (sym free) tt)
      by (inr (same, inl has)) = subst (EndsWithin n later n) same (EndsWithin-here n cell has (acyclic cell inside))
      by (inr (same, inr has)) =
          subst (EndsWithin n later n) same (EndsWithin-tight n later (n + n) (name cell) (EndsWithin-there acyclic n (n + n) cell (omega arith) has (acyclic_there cell inside)))

  -- ---- the solutions give the cells that are reached here the same types

  within_here : (cell : ℕ) → Here cell → name cell < n
  within_here cell has = is.within cell (is.inside cell has)

  pub carried-one_sided : IsAcyclic n later → AreArities n later → (s : ℕ → Plain) → Solves n e s → (t : ℕ → Plain) × Solves n later t × ((cell : ℕ) → Here cell → t (name cell) ≡ s cell)
  carried-one_sided acyclic arities s solves =
      carried n n Here e later name is.decided is.inside within_here is.different is.closed is.here acyclic arities
      s (λ cell has. solves.well_formed cell (is.inside cell has)) (λ cell has. solves.fits cell (is.inside cell has))

  pub brought-one_sided : IsAcyclic n e → AreArities n e → (t : ℕ → Plain) → Solves n later t → (s : ℕ → Plain) × Solves n e s × ((cell : ℕ) → Here cell → s cell ≡ t (name cell))
  brought-one_sided acyclic arities t solves =
      carried n n Here e e (λ cell. cell) is.decided is.inside is.inside (λ one two own has same. same) is.closed (λ cell has. sym (mapped_end-itself (e cell))) acyclic arities
      (λ cell. t (name cell)) (λ cell has. solves.well_formed (name cell) (within_here cell has))
      (λ cell has. Fits-narrow t name (t (name cell)) (e cell) (subst (Fits t (t (name cell))) (is.here cell has) (solves.fits (name cell) (within_here cell has))))
