use Rattle.std.proofs.Common.{arith}
use Rattle.vt_grammar.proofs.DepthLemmas.{loop-exceeds, loop-next, loop-end}
use Rattle.vt_grammar.proofs.stack.Stack.depth_over.Goals as goal

pub loop-i-preserved : goal.loop-i-preserved
loop-i-preserved c = record {
  same = loop-next c.self.inside.frames.items _ _ _ _ _ c.self.view_is c.loop-i.invariant.same c.index.result.now _ (omega (arith, c.self.inside.frames.ok)) c.index.ensures c.in_ok-whole.ensures.0;
  admitted = c.in_ok-whole.ensures.1;
}

pub returns-in_err-whole : goal.returns-in_err-whole
returns-in_err-whole c =
    rw c.from_residual.ensures
    (loop-exceeds c.self.inside.frames.items _ _ _ _ _ c.self.view_is c.loop-i.invariant.same c.index.result.now (omega (arith, c.self.inside.frames.ok)) c.index.ensures c.in_err-whole.ensures)

pub returns : goal.returns
returns c = (loop-end c.self.inside.frames.items _ _ _ _ _ c.self.view_is c.loop-i.invariant.same (omega (arith, c.self.inside.frames.ok)), c.loop-i.invariant.admitted)
