use Rattle.std.proofs.Common.{sym, ◌∙◌}
use Rattle.vt_infer.proofs.Entries.{lookup-entry_of, entries-new}
use Rattle.vt_infer.proofs.variables.Variables.add.Goals as goal

pub returns : goal.returns
returns c =
    rw (← c.self.view_is)
    (entries-new c.self.inside.cells c.insert.new.self.entries c.in_ok-from_slice.field-0 c.args.cell c.args.name.now c.in_ok-from_slice.ensures.items
    (sym (lookup-entry_of c.args.name.now c.self.inside.cells.entries) ∙ rw (← c.self.view_is) at c.requires) c.in_ok-insert.ensures.entries)
