use Rattle.std.proofs.Common.{ℕ, ◌+◌, ◌-◌, ◌*◌, ◌≤◌, List, [], ◌∷◌, drop, get_or, arith}
use Rattle.std.proofs.lemmas.List.{at_drop_more}
use Rattle.vt_lex.specs.Tokens.{number_after}
use Rattle.vt_lex.proofs.pieces.value_of.Goals as goal

-- more digits make no smaller number
number_after-grows : (n : ℕ) (digits : List ℕ) → n ≤ number_after n digits
number_after-grows n [] = omega arith
number_after-grows n (digit ∷ digits) = let h = number_after-grows (10 * n + (digit - 48)) digits in omega arith

pub returns-in_err-value : goal.returns-in_err-value
returns-in_err-value c =
    let digits = c.args.digits.now in
    let i = c.loop-digit.digit-index in
    let digit = c.digit-item.result in
    let next = 10 * c.loop-digit.value + (get_or digits i digit - 48) in
    let here = at_drop_more (number_after c.loop-digit.value) digits i digit c.loop-digit-test.true in
    let grows = number_after-grows next (drop (i + 1) digits) in
    rw c.from_residual.ensures (omega (arith, c.in_err-value.ensures, c.loop-digit.invariant.0, c.digit-item.is, here, grows))
