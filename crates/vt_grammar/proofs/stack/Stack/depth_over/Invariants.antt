use Rattle.std.proofs.Common.{◌≡◌, ◌≤◌, drop}
use Rattle.vt_syntax.specs.Spelling.{most_depth}
use Rattle.vt_grammar.specs.Machine.{depth_over}
use Rattle.vt_grammar.proofs.stack.Stack.depth_over.Given as goal

-- the depth so far, inside of the constructs that are left
abbrev pub invariant-loop-i : goal.invariant-loop-i
invariant-loop-i l = record {
  same : depth_over (drop l.i l.self-inside.frames.items) l.whole ≡ depth_over (drop l.fn.inside l.self-inside.frames.items) l.fn.depth;
  admitted : l.whole ≤ most_depth;
}
