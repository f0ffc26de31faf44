use Rattle.std.proofs.Common.{arith}
use Rattle.vt_scheme.proofs.Merging.{IsFrozen-narrowed}
use Rattle.vt_scheme.proofs.scheme.narrowed.Goals as goal

pub narrowed-requires : goal.narrowed-requires
narrowed-requires g c = (omega arith, record { cells = c.requires.monos; root = c.requires.root })

pub returns : goal.returns
returns g c = IsFrozen-narrowed g.row.N c.args.scheme.cells c.args.scheme.monos c.args.scheme.root c.in_ok-part.part c.in_ok-part.ensures
