use Rattle.std.specs.Prelude.{Bool, true, false}
use Rattle.vt_dec.specs.declared.side.Side.{Side}
use Rattle.vt_dec.specs.declared.side.Side.TheVariants.{Left, Right}

-- Right where the dimension is in a set, and else Left
abbrev pub side_of : Bool → Side
side_of true = Right
side_of false = Left

-- the side is Right
abbrev pub is_right : Side → Bool
is_right Right = true
is_right Left = false

-- Right where either of the two is
abbrev pub join_side : Side → Side → Side
join_side Left side = side
join_side Right side = Right
