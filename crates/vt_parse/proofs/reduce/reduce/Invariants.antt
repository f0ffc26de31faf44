use Rattle.std.proofs.Common.{◌≡◌, ◌≤◌, length}
use Rattle.vt_syntax.specs.Spelling.{most_depth}
use Rattle.vt_grammar.specs.Machine.{reduce, depth_over}
use Rattle.vt_parse.proofs.reduce.reduce.Given as goal

-- what is left to close comes to the same, and is no deeper than is admitted
abbrev pub invariant-loop-frame : goal.invariant-loop-frame
invariant-loop-frame l = record {
  same : reduce l.least l.stack l.operand ≡ reduce l.least l.fn.stack l.fn.operand;
  admitted : depth_over l.stack l.operand.depth ≤ most_depth;
}

abbrev pub decreases-loop-frame : goal.decreases-loop-frame
decreases-loop-frame l = length l.stack
