use Rattle.std.proofs.Common.{◌≡◌, ◌∙◌, length, ap, subst, rules, arith}
use Rattle.vt_infer.specs.Gathering.{AreGathered}
use Rattle.vt_infer.specs.Parts.{IsReached}
use Rattle.vt_infer.proofs.GatheringLemmas.{gathered_added}
use Rattle.vt_infer.proofs.InferredLemmas.{item_at}
use Rattle.vt_infer.proofs.ReachedSteps.{definable, reached_added}
use Rattle.vt_infer.proofs.definitions.definitions.Goals as goal

pub loop-def-preserved : goal.loop-def-preserved
loop-def-preserved g c =
    let is = item_at c.as_slice-def-items.result.now c.args.core.now.defs c.loop-def.def-index c.def-item.result c.as_slice-def-items.ensures c.loop-def-test.true c.def-item.is in
    record {
      reached = reached_added g.row.N c.args.constants.now c.requires.table c.args.within.now c.args.core.now c.loop-def.def-index c.loop-def.work c.loop-def.marks c.loop-def.invariant.reached
          c.def-item.result is c.requires.covers c.add.new.work c.add.new.marks c.in_ok-add.ensures.added;
      gathered = gathered_added g.row.N c.args.constants.now c.args.within.now c.args.core.now c.loop-def.def-index c.loop-def.work c.loop-def.marks c.loop-def.invariant.reached c.loop-def.holes c.loop-def.invariant.gathered
          c.def-item.result is c.requires.covers c.add.new.work c.add.new.marks c.add.new.holes c.in_ok-add.ensures;
      asked = c.in_ok-add.ensures.marked.asked ∙ c.loop-def.invariant.asked;
    }

pub add-requires : goal.add-requires
add-requires g c = (
  search rules,
  (
    search rules,
    (
      search rules,
      definable g.row.N c.args.constants.now c.requires.table c.args.within.now c.args.core.now c.loop-def.def-index c.loop-def.work c.loop-def.marks c.loop-def.invariant.reached
          c.def-item.result (item_at c.as_slice-def-items.result.now c.args.core.now.defs c.loop-def.def-index c.def-item.result c.as_slice-def-items.ensures c.loop-def-test.true c.def-item.is),
    ),
  ),
)

pub returns : goal.returns
returns g c =
    let same = c.as_slice-def-items.ensures in
    let all : c.loop-def.def-index ≡ length c.args.core.now.defs = omega (arith, ap length same) in
    record {
      reached = subst (λ count. IsReached g.row.N c.args.constants.now c.args.core.now c.args.within.now.space count c.loop-def.work c.loop-def.marks) all c.loop-def.invariant.reached;
      gathered = subst (λ count. AreGathered g.row.N c.args.constants.now c.args.core.now c.args.within.now.space count c.loop-def.work c.loop-def.holes) all c.loop-def.invariant.gathered;
      asked = c.loop-def.invariant.asked;
    }
