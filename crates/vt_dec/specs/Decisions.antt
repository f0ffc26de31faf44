use Rattle.std.specs.Prelude.{◌≡◌, ◌↔◌, ℕ, ◌+◌, ◌<◌, ◌≤◌, List, [], ◌∷◌, Option, Some, None, slice_get}
use Rattle.vt_dec.specs.declared.side.Side.{Side}
use Rattle.vt_dec.specs.declared.side.Side.TheVariants.{Left, Right}
use Rattle.vt_dec.specs.declared.side.Space.{Space}
use Rattle.vt_dec.specs.declared.side.Space.TheVariants.{All, AtMost}

-- A decision is the list of its sides: dimension n has the side at index n.

-- how many dimensions a decision takes Right
abbrev pub rights : List Side → ℕ
rights [] = 0
rights (Left ∷ sides) = rights sides
rights (Right ∷ sides) = 1 + rights sides

-- the decision is in the space
abbrev pub IsIn : Space → List Side → Type 0
IsIn All decision = Unit {0}
IsIn (AtMost k) decision = rights decision ≤ k

-- A context decides some dimensions and leaves the others open, within a space.
pub record Region : Type 0 where
  pub sides : List (Option Side)
  pub space : Space

-- the decision takes each side that is decided
abbrev pub Agrees : List (Option Side) → List Side → Type 0
Agrees [] [] = Unit {0}
Agrees (None ∷ decided) (side ∷ sides) = Agrees decided sides
Agrees (Some own ∷ decided) (side ∷ sides) = (own ≡ side) × Agrees decided sides
Agrees [] (side ∷ sides) = ⊥
Agrees (own ∷ decided) [] = ⊥

-- the decisions of a context: those of its space that agree with it
pub record Admits (region : Region) (decision : List Side) : Type 0 where
  pub agrees : Agrees region.sides decision
  pub in_space : IsIn region.space decision

-- the decision takes this side of this dimension
abbrev pub Takes : List Side → ℕ → Side → Type 0
Takes decision dim side = slice_get decision dim ≡ Some side

-- some admitted decision takes this side
abbrev pub CanTake : Region → ℕ → Side → Type 0
CanTake region dim side = (decision : List Side) × Admits region decision × Takes decision dim side

-- every admitted decision takes this side
abbrev pub MustTake : Region → ℕ → Side → Type 0
MustTake region dim side = (decision : List Side) → Admits region decision → Takes decision dim side

-- the one side of a dimension, or none where admitted decisions take either
abbrev pub IsSideOf : Region → ℕ → Option Side → Type 0
IsSideOf region dim None = CanTake region dim Left × CanTake region dim Right
IsSideOf region dim (Some side) = MustTake region dim side

-- the decisions of a context that take a side, as a context; none where there is no such decision
pub record Narrows (region : Region) (dim : ℕ) (side : Side) (narrowed : Region) : Type 0 where
  pub space : narrowed.space ≡ region.space
  pub exactly : (decision : List Side) → Admits narrowed decision ↔ (Admits region decision × Takes decision dim side)

abbrev pub IsNarrowed : Region → ℕ → Side → Option Region → Type 0
IsNarrowed region dim side None = CanTake region dim side → ⊥
IsNarrowed region dim side (Some narrowed) = Narrows region dim side narrowed

-- some decision is admitted by both
abbrev pub Meet : Region → Region → Type 0
Meet one other = (decision : List Side) × Admits one decision × Admits other decision

-- the least decision of a context: it takes Right only what every admitted decision takes Right
pub record IsLeast (region : Region) (decision : List Side) : Type 0 where
  pub admitted : Admits region decision
  pub least : (dim : ℕ) → Takes decision dim Right → MustTake region dim Right

-- The context decides the dimension itself. Of what every admitted decision takes, a context keeps as
-- little as describes it: where the budget of its space is used up, the Lefts follow and are not kept.
abbrev pub Decides : Region → ℕ → Side → Type 0
Decides region dim side = slice_get region.sides dim ≡ Some (Some side)

-- how many dimensions are decided Right
abbrev pub taken : List (Option Side) → ℕ
taken [] = 0
taken (None ∷ decided) = taken decided
taken (Some Left ∷ decided) = taken decided
taken (Some Right ∷ decided) = 1 + taken decided

-- no more dimensions are decided Right than the budget has, and where it is used up no Left is kept
pub record IsWithin (budget : ℕ) (decided : List (Option Side)) : Type 0 where
  pub within : taken decided ≤ budget
  pub no_left : taken decided ≡ budget → (dim : ℕ) → slice_get decided dim ≡ Some (Some Left) → ⊥

-- what a space asks of the sides that are decided
abbrev pub IsKeptIn : Space → List (Option Side) → Type 0
IsKeptIn All decided = Unit {0}
IsKeptIn (AtMost k) decided = IsWithin k decided

-- the region is one that a context describes: it keeps as little as describes it, and admits a decision
abbrev pub IsKept : Region → Type 0
IsKept region = IsKeptIn region.space region.sides

-- the first dimension from a number on that the context decides itself, or none
abbrev pub IsNextDecided : Region → ℕ → Option (ℕ × Side) → Type 0
IsNextDecided region from None = (dim : ℕ) (side : Side) → from ≤ dim → Decides region dim side → ⊥
IsNextDecided region from (Some found) =
    (from ≤ found.0) × Decides region found.0 found.1
    × ((dim : ℕ) (side : Side) → from ≤ dim → dim < found.0 → Decides region dim side → ⊥)
