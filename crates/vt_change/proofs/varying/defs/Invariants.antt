use Rattle.std.proofs.Common.{◌≡◌, List, map, take}
use Rattle.vt_syntax.specs.declared.leaf.Leaf.{Leaf}
use Rattle.vt_syntax.specs.Varying.{def_varied}
use Rattle.vt_change.specs.Numbering.{IsNumbering}
use Rattle.vt_change.proofs.varying.defs.Given as goal

abbrev pub invariant-loop-def : goal.invariant-loop-def
invariant-loop-def l = (leaves : List Leaf) → IsNumbering leaves l.numbers → l.made.items ≡ map (def_varied leaves) (take l.def-index l.defs)
