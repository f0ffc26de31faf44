use Rattle.std.specs.Prelude.{◌≡◌, ℕ, ◌-◌, ◌^◌, ◌<◌, Bool, true, false, List, [], ◌∷◌, Option, Some, None, map, length, slice_get}
use Rattle.vt_dec.specs.declared.side.Side.{Side}
use Rattle.vt_dec.specs.declared.side.Side.TheVariants.{Left}
use Rattle.vt_dec.specs.declared.side.Space.{Space}
use Rattle.vt_dec.specs.declared.side.Space.TheVariants.{All, AtMost}
use Rattle.vt_dec.specs.Decisions.{IsKeptIn, rights, taken}

-- A context holds the set of the dimensions that it decides, and its least decision.

-- what is kept of one dimension
abbrev pub own : Bool → Side → Option Side
own false side = None
own true side = Some side

-- the side of each dimension that is decided
abbrev pub kept : List Bool → List Side → List (Option Side)
kept [] least = []
kept (decides ∷ decided) [] = []
kept (decides ∷ decided) (side ∷ least) = own decides side ∷ kept decided least

-- the side that is decided, and else Left
abbrev pub side_or_left : Option Side → Side
side_or_left None = Left
side_or_left (Some side) = side

-- the least decision that agrees with what is decided
abbrev pub least_of : List (Option Side) → List Side
least_of decided = map side_or_left decided

-- how many dimensions may be Right, where the space has a bound
abbrev pub budget_of : Space → ℕ
budget_of All = 0
budget_of (AtMost k) = k

-- the budget of the space is used up
abbrev pub IsSpentIn : Space → List (Option Side) → Type 0
IsSpentIn All decided = ⊥
IsSpentIn (AtMost k) decided = taken decided ≡ k

-- the set has n dimensions, each member below 2 ^ 32, and the decision takes Right only there
pub record AreParts (n : ℕ) (decided : List Bool) (least : List Side) : Type 0 where
  pub long : length decided ≡ n
  pub full : length least ≡ n
  pub only : least_of (kept decided least) ≡ least
  pub low : (dim : ℕ) → slice_get decided dim ≡ Some true → dim < 2 ^ 32

-- what holds of the parts of a context over n dimensions
pub record IsHeld (n : ℕ) (decided : List Bool) (least : List Side) (left : ℕ) (space : Space) : Type 0 where
  pub parts : AreParts n decided least
  pub count : left ≡ budget_of space - rights least
  pub budget : IsKeptIn space (kept decided least)
