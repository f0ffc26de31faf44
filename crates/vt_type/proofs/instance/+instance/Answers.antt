use Rattle.std.proofs.Common.{◌∙◌, sym, true≢false}
use Rattle.vt_type.proofs.Makers.{more_here}
use Rattle.vt_type.proofs.SubtermsFit.{first_decides, others_decide, none_fit}
use Rattle.vt_type.proofs.instance.+instance.Goals as goal

pub all_fit-returns-in-Nil-subterms-2 : goal.all_fit-returns-in-Nil-subterms-2
all_fit-returns-in-Nil-subterms-2 t c =
    rw (c.in-More.is ∙ more_here _ _, c.in-Nil-subterms-2.is) (λ e. absurd (true≢false (sym e)), λ h. absurd (none_fit _ c.in-More.first c.in-More.others h))

pub all_fit-returns-then-fits : goal.all_fit-returns-then-fits
all_fit-returns-then-fits t c =
    rw (c.in-More.is ∙ more_here _ _, c.in-More-subterms-2.is ∙ more_here _ _)
    (others_decide _ c.in-More.first c.in-More-subterms-2.subterm c.in-More.others c.in-More-subterms-2.rest _ (rw (c.get.ensures, c.get-in-More-subterms-2.ensures) at (c.fits.ensures.0 c.if-fits.true)) (rw (c.get-then-fits.ensures, c.get-then-fits-2.ensures) at c.all_fit.ensures))

pub all_fit-returns-else-fits : goal.all_fit-returns-else-fits
all_fit-returns-else-fits t c =
    rw (c.in-More.is ∙ more_here _ _, c.in-More-subterms-2.is ∙ more_here _ _)
    (first_decides _ c.in-More.first c.in-More-subterms-2.subterm c.in-More.others c.in-More-subterms-2.rest _ (rw (c.get.ensures, c.get-in-More-subterms-2.ensures) at c.fits.ensures) c.if-fits.false)
