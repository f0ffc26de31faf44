use Rattle.std.proofs.Common.{◌*◌, refl, sym}
use Rattle.vt_diagram.specs.Tables.{tree_at}
use Rattle.vt_diagram.proofs.RightCounts.{zero-none, some-all, zero-at_most}
use Rattle.vt_diagram.proofs.entries.Entries.is_empty.Goals as goal

pub returns-in-None : goal.returns-in-None
returns-in-None g c = (λ t d long inside. zero-none (64 * g.row.N) (tree_at c.args.self.now c.args.id) c.fewest.ensures.ordered (sym c.in-None.ensures.is) d, λ zeros. refl)

pub returns-in-All : goal.returns-in-All
returns-in-All g c = (λ t. absurd cc, λ zeros. absurd (some-all (64 * g.row.N) (tree_at c.args.self.now c.args.id) c.fewest.ensures.ordered _ (sym c.in-Some.ensures.is) (rw c.in-All.is at zeros)))

pub returns-in-AtMost : goal.returns-in-AtMost
returns-in-AtMost g c = rw c.in-AtMost.is (zero-at_most (64 * g.row.N) (tree_at c.args.self.now c.args.id) c.fewest.ensures.ordered c.in-Some.count c.in-AtMost.budget (sym c.in-Some.ensures.is))
