use Rattle.std.proofs.Common.{◌≡◌, ◌∙◌}
use Rattle.std.proofs.lemmas.Result.{IfOk-weaker}
use Rattle.vt_type.specs.Variational.{vkids_of}
use Rattle.vt_type.proofs.Makers.{more_here}
use Rattle.vt_show.specs.Pairs.{of_plain, of_plain_kids}
use Rattle.vt_show.proofs.variational.+variational.Goals as goal

pub variational_kids-returns-in-Ok :
    goal.variational_kids-returns-in-Ok
variational_kids-returns-in-Ok t c =
    let first : c.in_ok-first-in-More.first ≡ of_plain c.in-More.first = rw c.get.ensures at c.in_ok-first-in-More.ensures in
    let others : c.in-Ok.others ≡ of_plain_kids c.in-More.others = rw c.get-in-More.ensures at c.in-Ok.ensures in
    rw (c.in-More.is ∙ more_here _ _)
    (IfOk-weaker c.more.result _ _ (λ all is. is ∙ (λ j. vkids_of (first j) (others j))) c.more.ensures)
