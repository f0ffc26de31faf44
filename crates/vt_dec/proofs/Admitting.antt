use Rattle.std.proofs.Common.{◌≡◌, ◌⊎◌, ℕ, zero, suc, List, [], ◌∷◌, Option, Some, None, length, slice_get, replicate, refl, sym, inl, inr, arith}
use Rattle.std.proofs.lemmas.Bool.{cases_lt}
use Rattle.std.proofs.lemmas.Option.{same_Some}
use Rattle.vt_dec.specs.declared.side.Side.{Side}
use Rattle.vt_dec.specs.declared.side.Side.TheVariants.{Left, Right}
use Rattle.vt_dec.specs.declared.side.Space.{Space}
use Rattle.vt_dec.specs.declared.side.Space.TheVariants.{All, AtMost}
use Rattle.vt_dec.specs.Decisions.{rights, IsIn, Region, Agrees, Admits}

-- Each decision is admitted, or it is not.

-- two sides are the same, or they are not
same_side : (one other : Side) → (one ≡ other) ⊎ (one ≡ other → ⊥)
same_side Left Left = inl refl
same_side Right Right = inl refl
same_side Left Right = inr (λ e. cc)
same_side Right Left = inr (λ e. cc)

pub Agrees-or : (sides : List (Option Side)) (decision : List Side) → Agrees sides decision ⊎ (Agrees sides decision → ⊥)
Agrees-or [] [] = inl tt
Agrees-or [] (side ∷ decision) = inr (λ h. h)
Agrees-or (None ∷ sides) [] = inr (λ h. h)
Agrees-or (Some own ∷ sides) [] = inr (λ h. h)
Agrees-or (None ∷ sides) (side ∷ decision) = Agrees-or sides decision
Agrees-or (Some own ∷ sides) (side ∷ decision) = by (same_side own side) (Agrees-or sides decision)
  where
    by : (own ≡ side) ⊎ (own ≡ side → ⊥) → Agrees sides decision ⊎ (Agrees sides decision → ⊥) → ((own ≡ side) × Agrees sides decision) ⊎ ((own ≡ side) × Agrees sides decision → ⊥)
    by (inl e) (inl a) = inl (e, a)
    by (inl e) (inr a) = inr (λ h. a h.1)
    by (inr e) a = inr (λ h. e h.0)

pub IsIn-or : (space : Space) (decision : List Side) → IsIn space decision ⊎ (IsIn space decision → ⊥)
IsIn-or All decision = inl tt
IsIn-or (AtMost k) decision = elim (cases_lt k (rights decision)) [ inl more ↦ inr (λ few. omega arith) | inr few ↦ inl few ]

pub Admits-or : (region : Region) (decision : List Side) → Admits region decision ⊎ (Admits region decision → ⊥)
Admits-or region decision = by (Agrees-or region.sides decision) (IsIn-or region.space decision)
  where
    by : Agrees region.sides decision ⊎ (Agrees region.sides decision → ⊥) → IsIn region.space decision ⊎ (IsIn region.space decision → ⊥) → Admits region decision ⊎ (Admits region decision → ⊥)
    by (inl a) (inl i) = inl (record { agrees = a; in_space = i })
    by (inl a) (inr i) = inr (λ h. i h.in_space)
    by (inr a) i = inr (λ h. a h.agrees)

-- ---- which decisions agree

-- with what nothing is decided of, each agrees that has as many sides
pub Agrees-open : (n : ℕ) (decision : List Side) → length decision ≡ n → Agrees (replicate n None) decision
Agrees-open zero [] sized = tt
Agrees-open zero (side ∷ decision) sized = absurd (omega arith)
Agrees-open (suc n) [] sized = absurd (omega arith)
Agrees-open (suc n) (side ∷ decision) sized = Agrees-open n decision (omega arith)

-- one that takes each side that is decided
pub Agrees-all : (sides : List (Option Side)) (decision : List Side) → length decision ≡ length sides
    → ((dim : ℕ) (side : Side) → slice_get sides dim ≡ Some (Some side) → slice_get decision dim ≡ Some side) → Agrees sides decision
Agrees-all [] [] sized each = tt
Agrees-all [] (side ∷ decision) sized each = absurd (omega arith)
Agrees-all (own ∷ sides) [] sized each = absurd (omega arith)
Agrees-all (None ∷ sides) (side ∷ decision) sized each = Agrees-all sides decision (omega arith) (λ dim. each (suc dim))
Agrees-all (Some own ∷ sides) (side ∷ decision) sized each =
    (sym (same_Some side own (each 0 own refl)), Agrees-all sides decision (omega arith) (λ dim. each (suc dim)))
