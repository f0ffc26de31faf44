use Rattle.std.proofs.Common.{◌≡◌, ◌-◌, ◌<◌, length, take, chars, sym, ap, ◌∙◌, arith}
use Rattle.std.proofs.lemmas.List.{map-id}
use Rattle.std.proofs.lemmas.Iterator.{YieldsList-from_chars}
use Rattle.std.proofs.lemmas.Iterator.Consumers.{YieldsList-turn, YieldsList-end}
use Rattle.std.proofs.lemmas.Str.{encodes-chars, scalars-chars, length-le-encodes}
use Rattle.vt_lex.specs.Places.{place_after}
use Rattle.vt_lex.proofs.PlaceLemmas.{place_after-other, place_after-bound}
use Rattle.vt_lex.proofs.place.line_col.Goals as goal
use Rattle.vt_lex.proofs.place.line_col.Goals.{In-Some}

-- there are fewer characters so far than bytes before the place
few : (c : In-Some) → length c.loop-c.yielded < c.args.at
few c =
    let bytes = c.range.result.now in
    let turn = YieldsList-turn (YieldsList-from_chars bytes c.range.utf8 cc) c.loop-c.yielded _ c.loop-c.yielded_by _ _ c.in-Some.c c.in-Some.is c.next.ensures.steps in
    omega (arith, turn.0, length-le-encodes (chars bytes), ap length (encodes-chars bytes c.range.utf8), c.range.ensures.len)

pub overflow_add-line : goal.overflow_add-line
overflow_add-line c = omega (arith, few (goal.at.overflow_add-line c).In-Some, place_after-bound c.loop-c.yielded _ c.loop-c.invariant)

pub loop-c-preserved : goal.loop-c-preserved
loop-c-preserved c = place_after-other c.loop-c.yielded c.in-Some.c _ c.if-c-eq10.false c.loop-c.invariant

pub returns : goal.returns
returns c =
    let bytes = c.range.result.now in
    let all = YieldsList-end (YieldsList-from_chars bytes c.range.utf8 cc) c.loop-c.yielded _ c.loop-c.yielded_by _ _ c.in-None.is c.next.ensures.steps in
    let size : c.args.at - 0 ≡ c.args.at = omega arith in
    let value = c.range.ensures.value ∙ ap (λ n. take n c.args.text.now) size in
    (chars bytes, rw (← value) record { scalars = scalars-chars bytes c.range.utf8; encoded = encodes-chars bytes c.range.utf8 }, c.loop-c.invariant ∙ ap place_after (sym (map-id c.loop-c.yielded) ∙ all.0))
