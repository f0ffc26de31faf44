use Rattle.std.specs.Prelude.{◌≡◌, ℕ, ◌<◌, List, [], ◌∷◌, map}
use Rattle.vt_type.specs.declared.plain.Plain.{Plain, Con}
use Rattle.vt_type.specs.declared.plain.PlainKids.{PlainKids, Nil}
use Rattle.vt_type.specs.Plain.{kids_of, IsWellFormed, IsInstance}
use Rattle.vt_type.specs.Canonical.{IsCanonical}
use Rattle.vt_type.specs.Constants.{pair}
use Rattle.vt_store.specs.Ends.{CellEnd, Free, Same, Made}

-- a list of types as children
abbrev pub plain_kids : List Plain → PlainKids
plain_kids [] = Nil
plain_kids (kid ∷ kids) = kids_of kid (plain_kids kids)

-- a type fits an end where each cell has its type
abbrev pub Fits : (ℕ → Plain) → Plain → CellEnd → Type 0
Fits s type Free = Unit {0}
Fits s type (Same cell) = type ≡ s cell
Fits s type (Made head kids) = type ≡ Con head (plain_kids (map s kids))

-- A solution gives each cell a type that is equal to what the cell is bound to.
pub record Solves (n : ℕ) (e : ℕ → CellEnd) (s : ℕ → Plain) : Type 0 where
  pub well_formed : (cell : ℕ) → cell < n → IsWellFormed (s cell)
  pub fits : (cell : ℕ) → cell < n → Fits s (s cell) (e cell)

-- a cell reads as its most general type, in canonical form
pub record ReadsAs (n : ℕ) (e : ℕ → CellEnd) (cell : ℕ) (type : Plain) : Type 0 where
  pub given : (s : ℕ → Plain) × Solves n e s × (s cell ≡ type)
  pub general : (s : ℕ → Plain) → Solves n e s → IsInstance (s cell) type
  pub canonical : IsCanonical type

-- two cells read as a pair, by one substitution for both
pub record PairReadsAs (n : ℕ) (e : ℕ → CellEnd) (left right : ℕ) (one other : Plain) : Type 0 where
  pub given : (s : ℕ → Plain) × Solves n e s × (s left ≡ one) × (s right ≡ other)
  pub general : (s : ℕ → Plain) → Solves n e s → IsInstance (pair (s left) (s right)) (pair one other)
  pub canonical : IsCanonical (pair one other)
