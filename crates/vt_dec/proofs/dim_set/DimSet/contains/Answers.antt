use Rattle.std.proofs.Common.{arith}
use Rattle.vt_dec.proofs.WordBits.{slice_get-members}
use Rattle.vt_dec.proofs.dim_set.DimSet.contains.Goals as goal

pub returns : goal.returns
returns g c =
    rw (c.index_of.ensures.index, c.offset_of.ensures, ← c.self.view_is) (slice_get-members c.self.inside.words c.args.dim (omega (arith, c.self.invariant.long)))
