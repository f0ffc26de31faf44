use Rattle.std.proofs.Common.{◌≡◌, suc, ◌≤◌, length}
use Rattle.vt_syntax.specs.declared.expr.Exprs.{Nil}
use Rattle.vt_syntax.specs.SurfaceTrees.{exprs}
use Rattle.vt_syntax.specs.Spelling.{most_depth}
use Rattle.vt_grammar.specs.Machine.{end_list, depth_over}
use Rattle.vt_parse.proofs.ending.end_list.Given as goal

-- what is left to take in comes to the same, and is no deeper than is admitted
abbrev pub invariant-loop-before : goal.invariant-loop-before
invariant-loop-before l = record {
  same : end_list l.at l.items (suc l.deepest) l.reader l.reader.stack ≡ end_list l.fn.at (exprs l.fn.last.expr Nil) (suc l.fn.last.depth) l.fn.reader l.fn.reader.stack;
  admitted : depth_over l.reader.stack l.deepest ≤ most_depth;
}

abbrev pub decreases-loop-before : goal.decreases-loop-before
decreases-loop-before l = length l.reader.stack
