use Rattle.std.proofs.Common.{sym, ◌∙◌}
use Rattle.vt_infer.proofs.Built.{IsBuilt-met, IsBuilt-first}
use Rattle.vt_infer.proofs.constant.variable.Goals as goal

pub returns-in-Some-clause-built : goal.returns-in-Some-clause-built
returns-in-Some-clause-built g c =
    IsBuilt-met g.row.N c.args.name.now c.in-Some.cell c.args.variables.now c.args.store.now c.requires (rw c.as_slice.ensures at (sym c.cell.ensures ∙ c.in-Some.is))

pub returns-clause-built : goal.returns-clause-built
returns-clause-built g c =
    IsBuilt-first g.row.N c.args.name.now c.in_ok-cell.cell c.args.variables.now c.add.new.self c.args.store.now c.open_cell.new.store c.requires
    (rw c.as_slice.ensures at (sym c.cell.ensures ∙ c.in_default.is)) c.in_ok-cell.ensures.is_new (rw c.as_slice-2.ensures at c.in_ok-add.ensures)
