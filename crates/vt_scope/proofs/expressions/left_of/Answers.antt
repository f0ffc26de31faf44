use Rattle.std.proofs.Common.{refl, sym, ap, ◌∙◌}
use Rattle.vt_scope.specs.Cores.{left_span}
use Rattle.vt_syntax.proofs.SurfaceSeen.{more_seen}
use Rattle.vt_scope.proofs.expressions.left_of.Goals as goal

pub returns-in-More : goal.returns-in-More
returns-in-More c = sym (ap (left_span c.args.whole) (c.in-More.is ∙ more_seen _ c.get.result.now _ c.in-More.field-1 c.get.ensures refl))
