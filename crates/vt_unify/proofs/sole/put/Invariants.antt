use Rattle.std.proofs.Common.{ℕ, ◌<◌}
use Rattle.std.specs.List.{All}
use Rattle.vt_unify.proofs.sole.put.Given as goal

abbrev pub invariant-loop-cell : goal.invariant-loop-cell
invariant-loop-cell l = (count : ℕ) → All (λ own. own.cell < count) l.fn.pending.items → All (λ own. own < count) l.cells → All (λ own. own.cell < count) l.pending.items
