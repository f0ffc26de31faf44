use Rattle.vt_store.proofs.Solutions.{have_solutions}
use Rattle.vt_infer.proofs.Joints.{joint-applied}
use Rattle.vt_infer.proofs.joining.applied.Goals as goal

pub returns-clause-joint : goal.returns-clause-joint
returns-clause-joint g c =
    joint-applied g.row.N c.args.within.now c.args.function c.args.argument c.in_ok-result.result c.in_ok-arrow.arrow c.args.node c.args.work.now.store c.open_cell.new.store c.function_cell.new.store c.equate.new.work.store c.args.work.now.pattern c.equate.new.work.pattern
    c.requires.function c.requires.argument (have_solutions g.row.N c.args.work.now.store c.most_general_solution.ensures c.acyclic.ensures.acyclic c.acyclic.ensures.arities)
    c.in_ok-result.ensures.is_new c.in_ok-arrow.ensures c.in_ok-equate.ensures.equated
