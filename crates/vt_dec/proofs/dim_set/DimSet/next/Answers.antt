use Rattle.std.proofs.Common.{◌≡◌, ◌+◌, ◌*◌, ◌<◌, ◌^◌, Some, true, bit_and, length, get_or, ◌-◌, arith}
use Rattle.std.proofs.lemmas.Option.{slice_get_within}
use Rattle.std.specs.Int.{trailing_zeros, w64}
use Rattle.vt_dec.specs.Words.{members, IsNextMember}
use Rattle.vt_dec.proofs.WordBits.{length-members}
use Rattle.vt_dec.proofs.NextBit.{none_in_word, first_in_word}
use Rattle.vt_dec.proofs.dim_set.DimSet.next.Goals as goal
use Rattle.vt_dec.proofs.dim_set.DimSet.next.Goals.{Then-word-ne0}

found : (g : _) (c : Then-word-ne0 g) → IsNextMember (members c.self.inside.words) c.args.from (Some (64 * c.loop-index.index + trailing_zeros w64 (bit_and (get_or c.self.inside.words c.loop-index.index 0) c.loop-index.mask)))
found g c =
    let kept = c.loop-index.invariant in
    first_in_word c.self.inside.words c.args.from c.loop-index.index c.loop-index.mask kept.hides g.row.N c.self.invariant c.loop-index-test.true
    (omega (arith, c.index_of-index.ensures.index)) kept.none c.if-word-ne0.true

low : (g : _) (c : Then-word-ne0 g) → 64 * c.loop-index.index + trailing_zeros w64 (bit_and (get_or c.self.inside.words c.loop-index.index 0) c.loop-index.mask) < 2 ^ 32
low g c = c.requires.low _ (rw (← c.self.view_is) ((found g c).1))

pub overflow_cast-result : goal.overflow_cast-result
overflow_cast-result g c = record { fits = omega (arith, low g c) }

pub overflow_mul-result : goal.overflow_mul-result
overflow_mul-result g c = record { fits = omega (arith, low g c) }

pub overflow_add-result : goal.overflow_add-result
overflow_add-result g c = record { fits = low g c }

pub returns-then-word-ne0 : goal.returns-then-word-ne0
returns-then-word-ne0 g c = rw (← c.self.view_is) (found g c)

pub loop-index-preserved : goal.loop-index-preserved
loop-index-preserved g c =
    let kept = c.loop-index.invariant in
    let past : c.args.from - 64 * (c.loop-index.index + 1) ≡ 0 = omega (arith, c.index_of-index.ensures.index) in
    record {
      hides = rw past;
      none = none_in_word c.self.inside.words c.args.from c.loop-index.index c.loop-index.mask kept.hides kept.none c.if-word-ne0.false;
    }

pub returns : goal.returns
returns g c =
    let words = c.self.inside.words in
    rw (← c.self.view_is) (λ dim after member.
    let within : dim < length (members words) = slice_get_within (members words) dim true member in
    c.loop-index.invariant.none dim after (omega (arith, length-members words, c.self.invariant.long)) member)
