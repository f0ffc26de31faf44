use Rattle.std.proofs.Common.{◌<◌, ◌≢◌, ap, sym, ◌∙◌, length, get_or, bit_or, arith}
use Rattle.std.proofs.lemmas.List.{get_or-set_same, get_or-set_other}
use Rattle.std.proofs.Math.Facts.{Fits-or}
use borrow.Author.Count.{below_more}
use Rattle.vt_dec.proofs.WordBits.{AreWords-set, members_of_zip, bit_or_IsBitwise}
use Rattle.vt_dec.proofs.dim_set.DimSet.union.Goals as goal

pub loop-index-preserved : goal.loop-index-preserved
loop-index-preserved g c =
    let at = c.loop-index.index in
    let words = c.loop-index.words in
    let kept = c.loop-index.invariant in
    let new = bit_or (get_or words at 0) (get_or c.other.inside.words at 0) in
    let inside : at < length words = omega (arith, kept.held.long) in
    record {
      held = AreWords-set g.row.N words at new kept.held (Fits-or (kept.held.fit at) (c.other.invariant.fit at));
      joined = below_more _ _
          (λ k low. let other : k ≢ at = omega arith in rw (get_or-set_other words at k new 0 other) (kept.joined k low))
          (get_or-set_same words at new 0 inside ∙ ap (λ word. bit_or word (get_or c.other.inside.words at 0)) (kept.rest at (omega arith)));
      rest = λ k high. let other : k ≢ at = omega arith in rw (get_or-set_other words at k new 0 other) (kept.rest k (omega arith));
    }

pub invariant_of-result : goal.invariant_of-result
invariant_of-result g c = c.loop-index.invariant.held

pub returns : goal.returns
returns g c =
    rw (← c.self.view_is, ← c.other.view_is)
    (sym (members_of_zip _ _ bit_or_IsBitwise g.row.N _ _ _ c.self.invariant c.other.invariant c.loop-index.invariant.held (λ k within. c.loop-index.invariant.joined k (omega arith))))
