use Rattle.vt_diagram.proofs.entries.Entries.+witness.Given as goal

abbrev pub decreases-witness : goal.decreases-witness
decreases-witness g l = l.id
