use Rattle.vt_dec.proofs.WordBits.{members-replicate}
use Rattle.vt_dec.proofs.dim_set.DimSet.empty.Goals as goal

pub returns : goal.returns
returns g c = members-replicate g.row.N
