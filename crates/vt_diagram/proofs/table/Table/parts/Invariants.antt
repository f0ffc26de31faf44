use Rattle.vt_diagram.specs.Parts.{IsParted, has_value, left_over}
use Rattle.vt_diagram.specs.Tables.{tree_at}
use Rattle.vt_diagram.proofs.table.Table.parts.Given as goal

abbrev pub invariant-loop-decision : goal.invariant-loop-decision
invariant-loop-decision g l = IsParted g.row.N l.space l.fn.self l.self l.fn.region l.id l.parts.items l.rest

abbrev pub decreases-loop-decision : goal.decreases-loop-decision
decreases-loop-decision g l = left_over (has_value l.parts.items) (tree_at l.self l.id)
