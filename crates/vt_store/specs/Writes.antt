use Rattle.std.specs.Prelude.{◌≡◌, ℕ, ◌*◌, ◌<◌, ◌≤◌, List, length, Option, Some, None}
use Rattle.vt_dec.specs.declared.side.Side.{Side}
use Rattle.vt_dec.specs.declared.side.Space.{Space}
use Rattle.vt_dec.specs.Decisions.{IsIn, Region, Admits, Takes, Decides, IsNextDecided}

-- a decision over 64 * N dimensions that is in the space
pub record IsOf (N : ℕ) (space : Space) (decision : List Side) : Type 0 where
  pub sized : length decision ≡ 64 * N
  pub inside : IsIn space decision

-- the decision takes what the context decides below a dimension
abbrev pub AgreesBelow : Region → ℕ → List Side → Type 0
AgreesBelow region from decision = (dim : ℕ) (side : Side) → dim < from → Decides region dim side → Takes decision dim side

-- What is at each decision changes at those that the context admits, and nowhere else in the space.
-- Only decisions that agree with the context below a dimension are looked at.
pub record IsWrite {A : Type 0} (N : ℕ) (region : Region) (from : ℕ) (change : A → A) (old new : List Side → A) : Type 0 where
  pub admitted : (decision : List Side) → IsOf N region.space decision → AgreesBelow region from decision → Admits region decision → new decision ≡ change (old decision)
  pub others : (decision : List Side) → IsOf N region.space decision → AgreesBelow region from decision → (Admits region decision → ⊥) → new decision ≡ old decision

-- nothing is decided from one dimension on and below another
abbrev pub IsGap : Region → ℕ → ℕ → Type 0
IsGap region from dim = (other : ℕ) (side : Side) → from ≤ other → other < dim → Decides region other side → ⊥

-- nothing is decided from a dimension on and below another, if there is another
abbrev pub IsGapTo : Region → ℕ → Option ℕ → Type 0
IsGapTo region from None = IsNextDecided region from None
IsGapTo region from (Some below) = IsGap region from below

-- a dimension comes before another, if there is another
abbrev pub IsBefore : ℕ → Option ℕ → Type 0
IsBefore dim None = Unit {0}
IsBefore dim (Some below) = dim < below

-- a dimension that a context decides, the first one from a place on
pub record IsNextAt (region : Region) (from : ℕ) (below : Option ℕ) (dim : ℕ) (side : Side) : Type 0 where
  pub later : from ≤ dim
  pub within : dim < length region.sides
  pub before : IsBefore dim below
  pub decides : Decides region dim side
  pub gap : IsGap region from dim

-- the first dimension from a place on, and before another if there is another, that a context decides
abbrev pub IsNextBefore : Region → ℕ → Option ℕ → Option (ℕ × Side) → Type 0
IsNextBefore region from below None = IsGapTo region from below
IsNextBefore region from below (Some found) = IsNextAt region from below found.0 found.1
