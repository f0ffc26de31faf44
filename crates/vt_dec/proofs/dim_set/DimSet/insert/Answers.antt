use Rattle.std.proofs.Common.{arith}
use Rattle.vt_dec.proofs.WordBits.{members-set_with_bit, AreWords-set, Fits-with_bit}
use Rattle.vt_dec.proofs.dim_set.DimSet.insert.Goals as goal

pub invariant_of-self : goal.invariant_of-self
invariant_of-self g c = AreWords-set g.row.N c.self.inside.words c.index_of.result _ c.self.invariant (Fits-with_bit _ c.offset_of.result (c.self.invariant.fit c.index_of.result))

pub returns-clause-inserted : goal.returns-clause-inserted
returns-clause-inserted g c =
    rw (c.index_of.ensures.index, c.offset_of.ensures, ← c.self.view_is) (members-set_with_bit c.self.inside.words c.args.dim (omega (arith, c.self.invariant.long)))
