use Rattle.std.proofs.Common.{◌≡◌, ◌<◌, length, List, Some}
use Rattle.vt_dec.specs.declared.side.Side.{Side}
use Rattle.vt_diagram.specs.Budgets.{IsWithin}
use Rattle.vt_diagram.specs.Tables.{value_at}
use Rattle.vt_diagram.proofs.entries.Entries.first.Given as goal

abbrev pub invariant-loop-value : goal.invariant-loop-value
invariant-loop-value g l = record { within : l.part < length l.self; same : (decision : List Side) → IsWithin (Some 0) decision → value_at l.self l.fn.id decision ≡ value_at l.self l.part decision }

abbrev pub decreases-loop-value : goal.decreases-loop-value
decreases-loop-value g l = l.part
