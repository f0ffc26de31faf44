use Rattle.std.proofs.Common.{true≢false, sym, refl}
use Rattle.std.proofs.lemmas.Option.{none-some}
use Rattle.vt_scope.proofs.ScopeLists.{dimension_known, dimension_refused, dimension_new, full_test, room_test}
use Rattle.vt_scope.proofs.walk.Walk.dimension.Goals as goal

pub returns-in-Some : goal.returns-in-Some
returns-in-Some c = dimension_known c.args.self.now c.args.name.now c.args.span c.in-Some.number (rw (← c.as_str.ensures) ((c.in-Some.ensures.number c.in-Some.number).0 refl))

pub returns-then-len-ge-MOST_DIMENSIONS : goal.returns-then-len-ge-MOST_DIMENSIONS
returns-then-len-ge-MOST_DIMENSIONS c =
    dimension_refused c.args.self.now c.args.name.now c.args.span (λ n h. none-some n ((c.in_default.ensures.number n).1 (rw c.as_str.ensures h))) (full_test _ (rw c.len.ensures.len at c.if-len-ge-MOST_DIMENSIONS.true))

pub returns : goal.returns
returns c =
    dimension_new c.args.self.now c.args.name.now c.args.span c.in_ok-number.number c.add.new.self (λ n h. none-some n ((c.in_default.ensures.number n).1 (rw c.as_str.ensures h))) (room_test _ (rw c.len.ensures.len at c.if-len-ge-MOST_DIMENSIONS.false))
    (rw (← c.as_str-2.ensures) c.in_ok-number.ensures.number)
    (rw (← c.as_str-2.ensures) (c.in_ok-number.ensures.added (λ h. true≢false (sym (c.in_default.ensures.known.1 (rw (c.as_str.ensures, ← c.as_str-2.ensures) h))))))
