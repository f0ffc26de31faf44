use Rattle.std.proofs.Common.{◌≡◌, ◌<◌, length}
use Rattle.vt_diagram.specs.Tables.{value_at}
use Rattle.vt_diagram.proofs.entries.Entries.value.Given as goal

abbrev pub invariant-loop-value : goal.invariant-loop-value
invariant-loop-value g l = record { within : l.part < length l.self; same : value_at l.self l.part l.decision ≡ value_at l.self l.fn.id l.decision }

abbrev pub decreases-loop-value : goal.decreases-loop-value
decreases-loop-value g l = l.part
