use Rattle.std.specs.Prelude.{ℕ}
use Rattle.vt_show.specs.declared.level.Level.{Level}
use Rattle.vt_show.specs.declared.level.Level.TheVariants.{Anywhere, LeftOfArrow, BesideStar}

-- the number of a level: the higher, the fewer types stand there without parentheses
abbrev pub level_number : Level → ℕ
level_number Anywhere = 0
level_number LeftOfArrow = 1
level_number BesideStar = 2
