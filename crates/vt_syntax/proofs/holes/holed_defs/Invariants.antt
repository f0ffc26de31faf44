use Rattle.std.proofs.Common.{◌≡◌, map, take}
use Rattle.vt_syntax.specs.Holes.{def_with_hole}
use Rattle.vt_syntax.proofs.holes.holed_defs.Given as goal

abbrev pub invariant-loop-def : goal.invariant-loop-def
invariant-loop-def l = l.made.items ≡ map (def_with_hole l.leaf) (take l.def-index l.defs)
