use Rattle.std.proofs.Common.{arith}
use Rattle.vt_dec.proofs.WordBits.{members-set_with_no_bit}
use Rattle.vt_dec.proofs.dim_set.DimSet.remove.Goals as goal

pub returns : goal.returns
returns g c =
    rw (c.index_of.ensures.index, c.offset_of.ensures, ← c.self.view_is) (members-set_with_no_bit c.self.inside.words c.args.dim (omega (arith, c.self.invariant.long)))
