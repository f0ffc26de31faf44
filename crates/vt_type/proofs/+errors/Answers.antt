use Rattle.std.proofs.Common.{◌∙◌}
use Rattle.vt_type.proofs.HasErrors.{first_holds, second_decides}
use Rattle.vt_type.proofs.Makers.{vmore_here, choice_here}
use Rattle.vt_type.proofs.+errors.Goals as goal

pub errors::some_has_error-returns-then-has_error :
    goal.errors::some_has_error-returns-then-has_error
errors::some_has_error-returns-then-has_error t c =
    rw (c.in-More.is ∙ vmore_here _ _) (first_holds _ _ _ (rw c.get.ensures at c.has_error.ensures) c.if-has_error.true)

pub errors::some_has_error-returns-else-has_error :
    goal.errors::some_has_error-returns-else-has_error
errors::some_has_error-returns-else-has_error t c =
    rw (c.in-More.is ∙ vmore_here _ _)
    (second_decides _ _ _ _ (rw c.get.ensures at c.has_error.ensures) c.if-has_error.false (rw c.get-else-has_error.ensures at c.some_has_error.ensures))

pub vtype::VType::has_error-returns-then-has_error :
    goal.vtype::VType::has_error-returns-then-has_error
vtype::VType::has_error-returns-then-has_error t c =
    rw (c.in-Choice.is ∙ choice_here _ _ _) (first_holds _ _ _ (rw c.get.ensures at c.has_error.ensures) c.if-has_error.true)

pub vtype::VType::has_error-returns-else-has_error :
    goal.vtype::VType::has_error-returns-else-has_error
vtype::VType::has_error-returns-else-has_error t c =
    rw (c.in-Choice.is ∙ choice_here _ _ _)
    (second_decides _ _ _ _ (rw c.get.ensures at c.has_error.ensures) c.if-has_error.false (rw c.get-else-has_error.ensures at c.has_error-else-has_error.ensures))
