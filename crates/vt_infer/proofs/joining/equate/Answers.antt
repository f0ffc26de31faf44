use Rattle.std.proofs.lemmas.Result.{on_ok_weaker}
use Rattle.vt_store.proofs.Solutions.{have_solutions}
use Rattle.vt_infer.proofs.Joints.{equated-unified}
use Rattle.vt_infer.proofs.joining.equate.Goals as goal

pub returns-clause-equated : goal.returns-clause-equated
returns-clause-equated g c = on_ok_weaker c.unify.result (λ unified. equated-unified g.row.N c.args.within.now c.args.one c.args.other c.args.node c.args.work.now.store c.unify.new.store c.args.work.now.pattern c.unify.new.pattern unified (have_solutions g.row.N c.args.work.now.store c.most_general_solution.ensures c.acyclic.ensures.acyclic c.acyclic.ensures.arities)) c.unify.ensures.ok
