use Rattle.std.proofs.Common.{◌⊎◌, ℕ, zero, suc, ◌<◌, ◌≤◌, List, inl, inr, sym, subst, arith}
use Rattle.std.proofs.lemmas.Bool.{cases_eq}
use Rattle.vt_syntax.specs.declared.core_expr.Core.{Core}
use Rattle.vt_type.specs.Constants.{Constant, IsTable}
use Rattle.vt_rules.specs.Env.{Empty}
use Rattle.vt_rules.specs.Principal.{IsTyped}
use Rattle.vt_rules.specs.Failing.{IsTypedUpTo, FirstFailing}
use Rattle.vt_rules.proofs.UpTo.{ty-up_to}

-- The first failing node.

module _ (K : List Constant) (program : Core) where
  -- where it is, there is no typing
  pub failing-untyped : IsTable K → (k : ℕ) → FirstFailing K program k → IsTyped K program → ⊥
  failing-untyped table k f typed = f.fails (typed.0, ty-up_to K table k Empty program typed.0 typed.1 tt)

  -- either each number below has a typing, or there is a first that has none
  search_below : (m : ℕ) → ((j : ℕ) → j < m → IsTypedUpTo K j program ⊎ (IsTypedUpTo K j program → ⊥))
      → ((j : ℕ) → j < m → IsTypedUpTo K j program) ⊎ ((k : ℕ) × (k < m) × FirstFailing K program k)
  search_below zero decide = inl (λ j less. absurd (omega arith))
  search_below (suc m) decide = next (search_below m (λ j less. decide j (omega arith))) (decide m (omega arith))
    where
      next : ((j : ℕ) → j < m → IsTypedUpTo K j program) ⊎ ((k : ℕ) × (k < m) × FirstFailing K program k)
          → IsTypedUpTo K m program ⊎ (IsTypedUpTo K m program → ⊥)
          → ((j : ℕ) → j < suc m → IsTypedUpTo K j program) ⊎ ((k : ℕ) × (k < suc m) × FirstFailing K program k)
      next (inr (k, less, first)) d = inr (k, omega arith, first)
      next (inl below) (inr fails) = inr (m, omega arith, record { fails = fails; before = below })
      next (inl below) (inl typed) = inl (λ j less. elim (cases_eq j m) [ inl same ↦ subst (λ i. IsTypedUpTo K i program) (sym same) typed | inr other ↦ below j (omega arith) ])

  -- Where each number up to the last is known to have a typing or none, and the last has none, there is a
  -- first that has none.
  pub least_failing : (last : ℕ) → ((j : ℕ) → j ≤ last → IsTypedUpTo K j program ⊎ (IsTypedUpTo K j program → ⊥))
      → (IsTypedUpTo K last program → ⊥) → (k : ℕ) × (k ≤ last) × FirstFailing K program k
  least_failing last decide fails =
      elim (search_below (suc last) (λ j less. decide j (omega arith))) [
        | inl below ↦ absurd (fails (below last (omega arith)))
        | inr (k, less, first) ↦ (k, omega arith, first)
      ]

  -- each number below has a typing, if that is no contradiction
  all_below : (last m : ℕ) → m ≤ suc last → ((k : ℕ) → k ≤ last → FirstFailing K program k → ⊥)
      → (((j : ℕ) → j < m → IsTypedUpTo K j program) → ⊥) → ⊥
  all_below last zero within none wrong = wrong (λ j less. absurd (omega arith))
  all_below last (suc m) within none wrong =
      all_below last m (omega arith) none
      (λ below. none m (omega arith) (record {
        fails = λ typed. wrong (λ j less. elim (cases_eq j m) [ inl same ↦ subst (λ i. IsTypedUpTo K i program) (sym same) typed | inr other ↦ below j (omega arith) ]);
        before = below;
      }))

  -- Without that knowledge: where the last has none, it cannot be that none is the first.
  pub some_first : (last : ℕ) → (IsTypedUpTo K last program → ⊥) → ((k : ℕ) → k ≤ last → FirstFailing K program k → ⊥) → ⊥
  some_first last fails none = all_below last (suc last) (omega arith) none (λ below. fails (below last (omega arith)))
