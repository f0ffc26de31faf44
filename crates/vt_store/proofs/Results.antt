use Rattle.std.specs.Prelude.{IfOk, Result, Ok, Err}

-- two facts about one result
pub IfOk-both : {X E : Type 0} (result : Result X E) (P Q : X → Type 0) → IfOk result P → IfOk result Q → IfOk result (λ x. P x × Q x)
IfOk-both (Ok x) P Q p q = (p, q)
IfOk-both (Err error) P Q p q = tt
