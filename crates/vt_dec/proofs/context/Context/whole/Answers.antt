use Rattle.std.proofs.Common.{◌*◌}
use Rattle.vt_dec.proofs.Kept.{IsHeld-whole, kept-replicate}
use Rattle.vt_dec.proofs.context.Context.whole.Goals as goal

pub invariant_of-result : goal.invariant_of-result
invariant_of-result g c = rw (c.empty.ensures, c.all_left.ensures, c.budget.ensures) (IsHeld-whole (64 * g.row.N) c.args.space)

pub returns-clause-all : goal.returns-clause-all
returns-clause-all g c = rw (c.empty.ensures, c.all_left.ensures, kept-replicate)

pub returns-clause-kept : goal.returns-clause-kept
returns-clause-kept g c = rw (c.empty.ensures, c.all_left.ensures) (IsHeld-whole (64 * g.row.N) c.args.space).budget
