use Rattle.std.proofs.Common.{◌*◌, ◌<◌, sym, arith}
use Rattle.std.proofs.lemmas.Bool.Decides.{nat_tests}
use Rattle.vt_diagram.specs.Tables.{tree_at}
use Rattle.vt_diagram.proofs.RightCounts.{zero-few, zero-none}
use Rattle.vt_diagram.proofs.entries.Entries.is_nothing.Goals as goal

pub returns-in-None : goal.returns-in-None
returns-in-None g c = λ t d within. zero-none (64 * g.row.N) (tree_at c.args.self.now c.args.id) c.fewest.ensures.ordered (sym c.in-None.ensures.is) d

pub returns-in-Some-budget : goal.returns-in-Some-budget
returns-in-Some-budget g c = λ t.
    let few : c.in-Some-budget.budget < c.in-Some.count = grind (arith, nat_tests) in
    rw c.in-Some-budget.is (λ d within. zero-few (64 * g.row.N) (tree_at c.args.self.now c.args.id) c.fewest.ensures.ordered c.in-Some.count c.in-Some-budget.budget (sym c.in-Some.ensures.is) few d within)
