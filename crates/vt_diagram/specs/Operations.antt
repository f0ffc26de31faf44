use Rattle.std.specs.Prelude.{ℕ, zero, suc, cond, eqb}
use Rattle.vt_diagram.specs.declared.operation.Operation.{Operation}
use Rattle.vt_diagram.specs.declared.operation.Operation.TheVariants.{Both, Either, Without, Same, Write}

-- one of two, by whether a value is 0
abbrev pub if_zero : ℕ → ℕ → ℕ → ℕ
if_zero zero none some = none
if_zero (suc value) none some = some

-- what an operation makes of two values
abbrev pub made_of : Operation → ℕ → ℕ → ℕ
made_of Both one other = if_zero other 0 one
made_of Either one other = if_zero one other one
made_of Without one other = if_zero other one 0
made_of Same one other = cond (eqb one other) 1 0
made_of (Write value) one other = if_zero one other value
