use Rattle.vt_type.proofs.Selecting.{selected-well_formed}
use Rattle.vt_type.proofs.vtype.VType.select.Goals as goal

pub returns-in-Some-clause-well_formed : goal.returns-in-Some-clause-well_formed
returns-in-Some-clause-well_formed c =
    rw (← c.in_ok-plain.ensures, c.in-Some.is) at (selected-well_formed c.args.decision.now c.args.self.now c.requires)
