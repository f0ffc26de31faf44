use Rattle.std.proofs.Common.{arith, length-take-le, sym}
use Rattle.vt_lex.proofs.FoundLemmas.{IsFound-token, IsFound-big}
use Rattle.vt_lex.proofs.StepLemmas.{byte_count-split, IsNext-token, IsGap-nothing, Misses-big, Misses-open, Misses-bad}
use Rattle.vt_lex.proofs.lexer.next_token.Goals as goal

pub split_at-requires : goal.split_at-requires
split_at-requires c = (IsFound-token _ _ _ (sym c.in-Token.ensures)).within

pub span_from-span-requires : goal.span_from-span-requires
span_from-span-requires c = rw c.split_at.ensures.front (omega (arith, byte_count-split c.in-Token.count c.skip_gap-start.result.0.now, c.skip_gap-start.ensures.places))

pub slice_bounds-span_from-end : goal.slice_bounds-span_from-end
slice_bounds-span_from-end c = sym (length-take-le _ _ (IsFound-big _ _ (sym c.in-BigNumber.ensures)).within)

pub span_from-span-requires-in-BigNumber : goal.span_from-span-requires-in-BigNumber
span_from-span-requires-in-BigNumber c = omega (arith, byte_count-split c.in-BigNumber.count c.skip_gap-start.result.0.now, c.skip_gap-start.ensures.places)

pub returns-in-Nothing : goal.returns-in-Nothing
returns-in-Nothing c = IsGap-nothing _ _ _ _ c.skip_gap-start.ensures.skips (sym c.in-Nothing.ensures)

pub returns-in-Token : goal.returns-in-Token
returns-in-Token c =
    rw (c.span_from-span.ensures, c.split_at.ensures.front, c.split_at.ensures.back) (IsNext-token _ _ _ _ _ _ c.skip_gap-start.ensures.skips (sym c.in-Token.ensures))

pub returns-in-BigNumber : goal.returns-in-BigNumber
returns-in-BigNumber c = rw c.span_from-span-in-BigNumber.ensures (Misses-big _ _ _ _ _ c.skip_gap-start.ensures.skips (sym c.in-BigNumber.ensures))

pub returns-in-OpenString : goal.returns-in-OpenString
returns-in-OpenString c = Misses-open _ _ _ _ c.skip_gap-start.ensures.skips (sym c.in-OpenString.ensures)

pub returns-in-BadCharacter : goal.returns-in-BadCharacter
returns-in-BadCharacter c = Misses-bad _ _ _ _ c.skip_gap-start.ensures.skips (sym c.in-BadCharacter.ensures)
