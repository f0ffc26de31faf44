use Rattle.std.proofs.Common.{true, refl, subst, arith}
use Rattle.std.specs.BTreeSet.{Updates}
use Rattle.std.specs.Ordering.{nat_cmp}
use Rattle.std.proofs.lemmas.Option.{slice_get_within}
use Rattle.vt_infer.proofs.InferredLemmas.{item_at}
use Rattle.vt_infer.proofs.NotedHoles.{asked-next}
use Rattle.vt_infer.proofs.holes.Holes.of.Goals as goal

pub loop-leaf-preserved : goal.loop-leaf-preserved
loop-leaf-preserved g c =
    asked-next c.args.leaves.now c.loop-leaf.leaf-index c.leaf-item.result c.loop-leaf.asked c.insert.new.self (item_at c.args.leaves.now c.args.leaves.now c.loop-leaf.leaf-index c.leaf-item.result refl c.loop-leaf-test.true c.leaf-item.is)
    (subst (λ node. Updates nat_cmp c.loop-leaf.asked c.insert.new.self node true) c.number.ensures c.in_ok-insert.ensures.updates) c.loop-leaf.invariant

pub returns-clause-asked : goal.returns-clause-asked
returns-clause-asked g c = λ place leaf is. let within = slice_get_within c.args.leaves.now place leaf is in c.loop-leaf.invariant place leaf (omega arith) is
