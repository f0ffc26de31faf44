use Rattle.std.proofs.Common.{◌≡◌, ◌⊎◌, ℕ, zero, suc, ◌+◌, ◌*◌, ◌<◌, ◌≤◌, List, length, refl, ap, sym, subst, ◌∙◌, inl, inr, arith}
use Rattle.std.proofs.lemmas.Bool.{cases_eq}
use Rattle.vt_dec.specs.declared.side.Side.{Side}
use Rattle.vt_dec.specs.declared.side.Space.{Space}
use Rattle.vt_dec.specs.Decisions.{Admits, IsIn}
use Rattle.vt_dec.proofs.Admitting.{Admits-or, IsIn-or}
use Rattle.vt_store.specs.Ends.{CellEnd, Free, Same, Made}
use Rattle.vt_store.specs.Patterns.{FateMap}
use Rattle.vt_store.specs.Stores.{Cells, cell_count, ends_at, IsBound}
use Rattle.vt_store.specs.Writes.{IsOf}
use Rattle.vt_unify.specs.Equations.{Equation, IsPosed}
use Rattle.vt_unify.specs.Turns.{IsBindable}
use Rattle.vt_unify.proofs.Sums.{sum_all, sum_all-lt}
use Rattle.vt_unify.proofs.Measures.{counted, counted-yes, counted-no, some-sized}

-- Each binding leaves fewer cells open, counted at every decision of the space.

abbrev is_open : CellEnd → ℕ
is_open Free = 1
is_open (Same cell) = 0
is_open (Made head kids) = 0

abbrev open_below : (ℕ → CellEnd) → ℕ → ℕ
open_below e zero = 0
open_below e (suc n) = is_open (e n) + open_below e n

open_below-same : (e later : ℕ → CellEnd) → ((cell : ℕ) → later cell ≡ e cell) → (n : ℕ) → open_below later n ≡ open_below e n
open_below-same e later same zero = refl
open_below-same e later same (suc n) = omega (arith, ap is_open (same n), open_below-same e later same n)

open_below-bound : (e later : ℕ → CellEnd) (cell to : ℕ) → e cell ≡ Free → later cell ≡ Same to → ((other : ℕ) → (other ≡ cell → ⊥) → later other ≡ e other)
    → (n : ℕ) → (cell < n → open_below later n < open_below e n) × (n ≤ cell → open_below later n ≡ open_below e n)
open_below-bound e later cell to free binds elsewhere zero = ((λ h. absurd (omega arith)), (λ h. refl))
open_below-bound e later cell to free binds elsewhere (suc n) = by (cases_eq n cell) (open_below-bound e later cell to free binds elsewhere n)
  where
    by : (n ≡ cell) ⊎ (n ≡ cell → ⊥) → (cell < n → open_below later n < open_below e n) × (n ≤ cell → open_below later n ≡ open_below e n)
        → (cell < suc n → open_below later (suc n) < open_below e (suc n)) × (suc n ≤ cell → open_below later (suc n) ≡ open_below e (suc n))
    by (inl same) rest =
        let was : is_open (e n) ≡ 1 = ap is_open (ap e same ∙ free) in
        let now : is_open (later n) ≡ 0 = ap is_open (ap later same ∙ binds) in
        let below = rest.1 (omega arith) in
        ((λ h. omega arith), (λ h. absurd (omega arith)))
    by (inr differ) rest =
        let here : is_open (later n) ≡ is_open (e n) = ap is_open (elsewhere n differ) in
        ((λ h. let below = rest.0 (omega arith) in omega arith), (λ h. let below = rest.1 (omega arith) in omega arith))

abbrev open_in : Cells → List Side → ℕ
open_in store decision = counted (IsIn-or store.space decision) (open_below (ends_at store decision) (cell_count store))

abbrev pub open_cells : ℕ → Cells → ℕ
open_cells N store = sum_all (64 * N) (open_in store)

module _ (N : ℕ) (old new : Cells) (pattern : FateMap) (binding : Equation) (posed : IsPosed N old binding) (bindable : IsBindable old pattern binding)
    (bound : IsBound N binding.within binding.left binding.right old new) where
  -- nothing changes where the equation does not speak of the decision
  pub unbound : (decision : List Side) → IsOf N old.space decision → (Admits binding.within decision → ⊥) → (cell : ℕ) → ends_at new decision cell ≡ ends_at old decision cell
  unbound decision of out cell = by (cases_eq cell binding.left)
    where
      by : (cell ≡ binding.left) ⊎ (cell ≡ binding.left → ⊥) → ends_at new decision cell ≡ ends_at old decision cell
      by (inl same) = ap (ends_at new decision) same ∙ bound.others decision of out ∙ sym (ap (ends_at old decision) same)
      by (inr differ) = bound.elsewhere decision cell differ

  open-inside : (decision : List Side) → IsIn old.space decision → open_in old decision ≡ open_below (ends_at old decision) (cell_count old)
  open-inside decision inside = counted-yes (IsIn-or old.space decision) (open_below (ends_at old decision) (cell_count old)) inside

  open-later : (decision : List Side) → IsIn old.space decision → open_in new decision ≡ open_below (ends_at new decision) (cell_count old)
  open-later decision inside =
      counted-yes (IsIn-or new.space decision) (open_below (ends_at new decision) (cell_count new)) (subst (λ (space : Space). IsIn space decision) (sym bound.space) inside)
      ∙ ap (open_below (ends_at new decision)) bound.count

  less-open : (decision : List Side) → Admits binding.within decision → open_in new decision < open_in old decision
  less-open decision admits =
      let inside = subst (λ (space : Space). IsIn space decision) posed.space admits.in_space in
      let falls =
      open_below-bound (ends_at old decision) (ends_at new decision) binding.left binding.right (bindable.binds decision admits).free (bound.admitted decision admits) (bound.elsewhere decision) (cell_count old)
      in
      let less = falls.0 posed.left in
      omega (arith, open-inside decision inside, open-later decision inside, less)

  no_more-open : (decision : List Side) → length decision ≡ 64 * N → open_in new decision ≤ open_in old decision
  no_more-open decision sized = by (Admits-or binding.within decision) (IsIn-or old.space decision)
    where
      by : Admits binding.within decision ⊎ (Admits binding.within decision → ⊥) → IsIn old.space decision ⊎ (IsIn old.space decision → ⊥) → open_in new decision ≤ open_in old decision
      by (inl admits) inside = omega (arith, less-open decision admits)
      by (inr out) (inl inside) =
          let of : IsOf N old.space decision = record { sized = sized; inside = inside } in
          omega (arith, open-inside decision inside, open-later decision inside, open_below-same (ends_at old decision) (ends_at new decision) (unbound decision of out) (cell_count old))
      by (inr out) (inr outside) =
          omega (arith, counted-no (IsIn-or new.space decision) (open_below (ends_at new decision) (cell_count new)) (λ inside. outside (subst (λ (space : Space). IsIn space decision) bound.space inside)))

  pub open_cells-falls : open_cells N new < open_cells N old
  open_cells-falls = sum_all-lt (64 * N) (open_in new) (open_in old) posed.some.0 (some-sized N old binding posed) no_more-open (less-open posed.some.0 posed.some.1)
