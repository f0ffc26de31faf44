use Rattle.std.proofs.Common.{sym, ◌∙◌}
use Rattle.vt_parse.proofs.ShutLemmas.{admitted-top, reduce-closed, reduce-open}
use Rattle.vt_parse.proofs.reduce.reduce.Goals as goal

pub shut-requires : goal.shut-requires
shut-requires c = admitted-top _ _ _ _ c.in-Some.ensures.1 c.loop-frame.invariant.admitted

pub loop-frame-preserved : goal.loop-frame-preserved
loop-frame-preserved c =
    let next = reduce-closed _ _ _ _ _ _ c.in-Some.ensures.1 (c.in_ok-operand.ensures c.args.least c.in-Some.ensures.0) in
    record { same = sym next.same ∙ c.loop-frame.invariant.same; admitted = next.admitted c.loop-frame.invariant.admitted }

pub returns : goal.returns
returns c = sym c.loop-frame.invariant.same ∙ reduce-open _ _ _ _ c.in_default.ensures.0 c.in_default.ensures.1
