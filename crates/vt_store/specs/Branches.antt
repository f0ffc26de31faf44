use Rattle.std.specs.Prelude.{◌≡◌, ◌⊎◌, ℕ, ◌≤◌, List, Option, Some, None}
use Rattle.vt_dec.specs.declared.side.Side.{Side}
use Rattle.vt_dec.specs.declared.side.Side.TheVariants.{Left, Right}
use Rattle.vt_dec.specs.Decisions.{Region, Admits, Takes}

-- the dimensions of the choices that a decision comes by in a diagram
abbrev pub Ways : Type 1
Ways = List Side → ℕ → Type 0

-- a decision comes by a choice, and on the side that it takes by what it comes by there
abbrev pub PassesChoice : ℕ → Ways → Ways → Ways
PassesChoice own left right decision dim = (own ≡ dim) ⊎ ((Takes decision own Left × left decision dim) ⊎ (Takes decision own Right × right decision dim))

-- two admitted decisions come by a choice on the dimension, and take either side
pub record Branches (region : Region) (ways : Ways) (dim : ℕ) : Type 0 where
  pub left : List Side
  pub right : List Side
  pub left_admitted : Admits region left
  pub right_admitted : Admits region right
  pub takes_left : Takes left dim Left
  pub takes_right : Takes right dim Right
  pub left_passes : ways left dim
  pub right_passes : ways right dim

-- the least dimension on which a diagram branches within a context; none where there is none
abbrev pub IsLeastBranch : Region → Ways → Option ℕ → Type 0
IsLeastBranch region ways None = (dim : ℕ) → Branches region ways dim → ⊥
IsLeastBranch region ways (Some dim) = Branches region ways dim × ((other : ℕ) → Branches region ways other → dim ≤ other)
