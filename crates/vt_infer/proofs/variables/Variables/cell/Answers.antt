use Rattle.std.proofs.Common.{sym, ◌∙◌}
use Rattle.vt_infer.proofs.Entries.{lookup-entry_of}
use Rattle.vt_infer.proofs.variables.Variables.cell.Goals as goal

pub returns-in-Some : goal.returns-in-Some
returns-in-Some c = sym (rw (← c.self.view_is) (lookup-entry_of c.args.name.now c.self.inside.cells.entries ∙ sym c.in-Some.ensures.value))

pub returns-in-None : goal.returns-in-None
returns-in-None c = sym (rw (← c.self.view_is) (lookup-entry_of c.args.name.now c.self.inside.cells.entries ∙ sym c.in-None.ensures.value))
