use Rattle.std.specs.Prelude.{◌≡◌, ℕ}
use Rattle.vt_store.specs.declared.views.End.{End}
use Rattle.vt_store.specs.declared.views.End.TheVariants.{Open, Link, Con}
use Rattle.vt_store.specs.declared.views.Look.{Look}
use Rattle.vt_store.specs.declared.views.Look.TheVariants as look
use Rattle.vt_store.specs.Ends.{CellEnd, Free, Same, Made}

-- the end that a call answers
abbrev pub seen : End → CellEnd
seen Open = Free
seen (Link cell) = Same cell
seen (Con head kids) = Made head kids.now

-- links lead from one cell to another
pub data Follows (e : ℕ → CellEnd) : ℕ → ℕ → Type 0 where
  arrived : (cell : ℕ) → Follows e cell cell
  onward : (cell next last : ℕ) → e cell ≡ Same next → Follows e next last → Follows e cell last

-- what a cell is bound to once its links are followed
abbrev pub LooksAs : (ℕ → CellEnd) → ℕ → Look → Type 0
LooksAs e cell (look.Open last) = Follows e cell last × (e last ≡ Free)
LooksAs e cell (look.Con head kids) = (last : ℕ) × Follows e cell last × (e last ≡ Made head kids.now)
