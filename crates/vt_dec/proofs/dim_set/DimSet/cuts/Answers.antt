use Rattle.std.proofs.Common.{refl, arith}
use Rattle.vt_dec.proofs.WordBits.{length-members, members_of_zip, zip_of_members, bit_and_IsBitwise}
use Rattle.vt_dec.proofs.dim_set.DimSet.cuts.Goals as goal

pub returns-then-whole-index-clause-cut : goal.returns-then-whole-index-clause-cut
returns-then-whole-index-clause-cut g c =
    rw (← c.self.view_is, ← c.whole.view_is, ← c.kept.view_is) (
      λ no. (cc),
      λ same. absurd (c.if-whole-index.true
          (zip_of_members _ _ bit_and_IsBitwise g.row.N _ _ _ c.whole.invariant c.self.invariant c.kept.invariant same c.loop-index.index c.loop-index-test.true)),
    )

pub returns-then-whole-index-clause-sized : goal.returns-then-whole-index-clause-sized
returns-then-whole-index-clause-sized g c =
    rw (← c.self.view_is, ← c.whole.view_is) (omega (arith, length-members c.self.inside.words, length-members c.whole.inside.words))

pub returns-clause-sized : goal.returns-clause-sized
returns-clause-sized g c =
    rw (← c.self.view_is, ← c.whole.view_is) (omega (arith, length-members c.self.inside.words, length-members c.whole.inside.words))

pub returns-clause-cut : goal.returns-clause-cut
returns-clause-cut g c =
    rw (← c.self.view_is, ← c.whole.view_is, ← c.kept.view_is) (
      λ _. members_of_zip _ _ bit_and_IsBitwise g.row.N _ _ _ c.whole.invariant c.self.invariant c.kept.invariant (λ k within. c.loop-index.invariant k (omega arith)),
      λ _. refl,
    )
