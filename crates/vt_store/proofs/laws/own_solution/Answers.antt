use Rattle.vt_store.proofs.MostGeneral.{solution, solution-solves, solution-open, solution-most_general}
use Rattle.vt_store.proofs.laws.own_solution.Goals as goal

pub returns : goal.returns
returns c n e acyclic arities = (
  solution e n,
  record {
    solves = solution-solves n e acyclic arities;
    open_cells = solution-open n e acyclic;
    general = λ other solves. solution-most_general n e other solves acyclic;
  },
)
