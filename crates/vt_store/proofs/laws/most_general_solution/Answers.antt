use Rattle.vt_store.proofs.MostGeneral.{solution, solution-solves, solution-most_general}
use Rattle.vt_store.proofs.laws.most_general_solution.Goals as goal

pub returns : goal.returns
returns c n e acyclic arities =
    (solution e n, solution-solves n e acyclic arities, λ other solves. solution-most_general n e other solves acyclic)
