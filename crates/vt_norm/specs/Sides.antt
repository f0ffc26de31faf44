use Rattle.std.specs.Prelude.{◌≡◌, ℕ, List, [], ◌∷◌, Bool, true, false, ◌&&◌, Option, Some, None, length, slice_get}
use Rattle.std.specs.Option.{unwrap_or}
use Rattle.vt_dec.specs.declared.side.Side.{Side}
use Rattle.vt_dec.specs.declared.side.Side.TheVariants.{Left, Right}
use Rattle.vt_dec.specs.declared.side.Space.TheVariants.{All}
use Rattle.vt_dec.specs.Decisions.{Region}

-- Sets of decisions, each by the sides of the dimensions that are decided: a decision is in the set
-- where it agrees with these.

-- the side that a decision takes; past its end it is left
abbrev pub taken_side : List Side → ℕ → Side
taken_side decision dim = unwrap_or (slice_get decision dim) Left

-- a context over 64 dimensions that is part of no smaller space
pub record IsPart (region : Region) : Type 0 where
  pub all_space : region.space ≡ All
  pub sized : length region.sides ≡ 64

-- the same side
abbrev pub is_side : Side → Side → Bool
is_side Left Left = true
is_side Right Right = true
is_side one other = false

-- the decision takes each side that is decided, as a test
abbrev pub agrees : List (Option Side) → List Side → Bool
agrees [] [] = true
agrees (None ∷ decided) (side ∷ sides) = agrees decided sides
agrees (Some own ∷ decided) (side ∷ sides) = is_side own side && agrees decided sides
agrees [] (side ∷ sides) = false
agrees (own ∷ decided) [] = false
