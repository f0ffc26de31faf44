use Rattle.std.proofs.Common.{◌≡◌, List, [], ◌∷◌, Option, Some, None}
use Rattle.std.specs.Prelude.{MatchOption}

-- What is left of a list when its first item is taken.
pub popped : {X : Type 0} (result : Option X) (item : X) (before after rest : List X)
    → MatchOption result ((before ≡ []) × (after ≡ [])) (λ own. before ≡ own ∷ after) → before ≡ item ∷ rest → after ≡ rest
popped None item before after rest taken is = let none = taken.0 in cc
popped (Some own) item before after rest taken is = let some = taken in cc
