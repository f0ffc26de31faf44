use Rattle.std.proofs.Common.{refl, ◌∙◌}
use Rattle.vt_type.proofs.Makers.{vmore_here}
use Rattle.vt_show.proofs.Writing.{other_kids}
use Rattle.vt_show.proofs.writer.both.Goals as goal

pub only-requires : goal.only-requires
only-requires c = rw c.get-in-More.ensures (other_kids _ _ _ c.in-More.is c.requires)

pub returns : goal.returns
returns c =
    rw (c.in-More.is ∙ vmore_here _ _, c.get.ensures, ← c.get-in-More.ensures, c.only.ensures) refl
