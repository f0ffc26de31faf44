use Rattle.std.proofs.Common.{◌*◌, sym, ◌∙◌}
use Rattle.vt_diagram.specs.Tables.{tree_at}
use Rattle.vt_diagram.proofs.RightCounts.{zero-none, zero-few}
use Rattle.vt_diagram.proofs.entries.Entries.member.Goals as goal

pub returns-in_default : goal.returns-in_default
returns-in_default g c = λ d of has. has (zero-none (64 * g.row.N) (tree_at c.args.self.now c.args.id) c.fewest.ensures.ordered (sym c.fewest.ensures.is ∙ c.in_default.is) d)

pub returns-then-budget-count : goal.returns-then-budget-count
returns-then-budget-count g c = λ d of has.
    has (zero-few (64 * g.row.N) (tree_at c.args.self.now c.args.id) c.fewest.ensures.ordered c.in-Some.count c.in-AtMost.budget (sym c.in-Some.ensures.is) c.if-budget-count.true d (rw c.in-AtMost.is at of.inside))
