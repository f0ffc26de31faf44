use Rattle.std.proofs.Common.{ℕ, ◌+◌, ◌*◌, ◌<◌, ◌≤◌, arith}
use prog.Memory.{up}

-- A context of few words is no large value.

up_to_eight : (n : ℕ) → up 8 n ≤ n + 7
up_to_eight n = omega arith

up_to_four : (n : ℕ) → up 4 n ≤ n + 3
up_to_four n = omega arith

context_size : (n : ℕ) → n ≤ 64 → up 8 (up 4 (up 4 (up 8 (0 + up 8 (0 + n * 8)) + up 8 (0 + up 8 (0 + n * 8))) + 4) + 8) ≤ 2000
context_size n le =
    let one = up_to_eight (0 + n * 8) in
    let two = up_to_eight (0 + up 8 (0 + n * 8)) in
    let sum = up 8 (0 + up 8 (0 + n * 8)) + up 8 (0 + up 8 (0 + n * 8)) in
    let three = up_to_four sum in
    let four = up_to_four (up 4 sum + 4) in
    let five = up_to_eight (up 4 (up 4 sum + 4) + 8) in
    omega arith

pub context_fits : (n : ℕ) → n ≤ 64 → up 8 (up 4 (up 4 (up 8 (0 + up 8 (0 + n * 8)) + up 8 (0 + up 8 (0 + n * 8))) + 4) + 8) < 9223372036854775808
context_fits n le = let few = context_size n le in omega arith

-- a hole that was met, with its context
pub hole_fits : (n : ℕ) → n ≤ 64 → up 8 (up 8 (8 + up 8 (up 4 (up 4 (up 8 (0 + up 8 (0 + n * 8)) + up 8 (0 + up 8 (0 + n * 8))) + 4) + 8)) + 8) < 9223372036854775808
hole_fits n le =
    let few = context_size n le in
    let context = up 8 (up 4 (up 4 (up 8 (0 + up 8 (0 + n * 8)) + up 8 (0 + up 8 (0 + n * 8))) + 4) + 8) in
    let one = up_to_eight (8 + context) in
    let two = up_to_eight (up 8 (8 + context) + 8) in
    omega arith
