use Rattle.std.proofs.Common.{rules, arith}
use Rattle.vt_diagram.proofs.Partition.{parted-more, left_over-parted}
use Rattle.vt_diagram.proofs.table.Table.parts.Goals as goal

pub member-requires : goal.member-requires
member-requires g c = (search rules, (search rules, c.loop-decision.invariant.rest_is.0))

pub value-value-requires : goal.value-value-requires
value-value-requires g c = (search rules, (search rules, omega (arith, c.requires.1, c.loop-decision.invariant.grows.more)))

pub loop-decision-smaller : goal.loop-decision-smaller
loop-decision-smaller g c =
    rw c.in_ok-push.ensures.items
    (left_over-parted g.row.N c.space-space.result c.args.self.now c.loop-decision.self c.cut.new.self c.args.region c.args.id c.loop-decision.rest c.loop-decision.parts.items c.in_ok-cut.cut c.value-value.result c.in-Some.decision
    c.requires.1 c.loop-decision.invariant c.in-Some.ensures.0 c.in-Some.ensures.1 c.value-value.ensures c.cut.ensures.grows c.in_ok-cut.ensures.cut)

pub loop-decision-preserved : goal.loop-decision-preserved
loop-decision-preserved g c =
    rw c.in_ok-push.ensures.items
    (parted-more g.row.N c.space-space.result c.args.self.now c.loop-decision.self c.cut.new.self c.args.region c.args.id c.loop-decision.rest c.loop-decision.parts.items c.in_ok-cut.cut c.value-value.result c.in-Some.decision
    c.requires.1 c.loop-decision.invariant c.in-Some.ensures.0 c.in-Some.ensures.1 c.value-value.ensures c.cut.ensures.grows c.in_ok-cut.ensures.cut)
