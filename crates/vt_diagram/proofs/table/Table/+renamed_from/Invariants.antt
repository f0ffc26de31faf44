use Rattle.vt_diagram.proofs.table.Table.+renamed_from.Given as goal

abbrev pub decreases-renamed_from : goal.decreases-renamed_from
decreases-renamed_from g l = l.id
