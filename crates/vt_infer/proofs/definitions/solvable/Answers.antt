use Rattle.vt_store.proofs.Solutions.{have_solutions}
use Rattle.vt_infer.proofs.definitions.solvable.Goals as goal

pub returns : goal.returns
returns g c = have_solutions g.row.N c.args.store.now c.most_general_solution.ensures c.acyclic.ensures.acyclic c.acyclic.ensures.arities
