use Rattle.std.proofs.Common.{◌≡◌, suc, ◌-◌, refl, sym, ap, ◌∙◌, arith}
use Rattle.vt_type.specs.NormalForm.{kid_at}
use Rattle.vt_type.specs.Plain.{kids_of}
use Rattle.vt_type.proofs.Makers.{more_here}
use Rattle.vt_type.proofs.plain.PlainKids.+kid.Goals as goal

pub returns-then-number-eq0 : goal.returns-then-number-eq0
returns-then-number-eq0 t c = rw (c.in-More.is ∙ more_here _ _, c.if-number-eq0.true, c.get.ensures) refl

pub returns-else-number-eq0 : goal.returns-else-number-eq0
returns-else-number-eq0 t c =
    let before : c.args.number ≡ suc (c.args.number - 1) = omega arith in
    rw (c.in-More.is ∙ more_here _ _) (rw c.get-else-number-eq0.ensures at c.kid.ensures ∙ ap (kid_at (kids_of c.in-More.first c.in-More.others)) (sym before))
