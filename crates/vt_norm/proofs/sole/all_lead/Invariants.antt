use Rattle.std.proofs.Common.{◌≡◌, take}
use Rattle.std.specs.List.{All}
use Rattle.vt_norm.specs.Soles.{ahead_in}
use Rattle.vt_norm.proofs.sole.all_lead.Given as goal

abbrev pub invariant-loop-cell : goal.invariant-loop-cell
invariant-loop-cell l = All (λ cell. ahead_in l.known cell ≡ l.last) (take l.cell-index l.cells)
