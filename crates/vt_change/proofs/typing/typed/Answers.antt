use Rattle.std.proofs.Common.{◌*◌, length, lit<, sym, subst, arith}
use Rattle.vt_syntax.specs.Checking.{IsInCheckingOrder}
use Rattle.vt_syntax.specs.Scoping.{IsClosed}
use Rattle.vt_change.proofs.VariedPrograms.{closed-varied, order-varied}
use Rattle.vt_change.proofs.typing.typed.Goals as goal

pub infer-typed-requires : goal.infer-typed-requires
infer-typed-requires c =
    let is = c.in_ok-varied.ensures.varied in (
      lit< tt,
      (
        subst (IsClosed (length c.args.constants.now) (64 * 32)) (sym is) (closed-varied c.args.leaves.now (length c.args.constants.now) (64 * 32) c.args.core.now (omega (arith, c.requires.few)) c.requires.closed),
        (subst IsInCheckingOrder (sym is) (order-varied c.args.leaves.now c.args.core.now c.requires.plain c.requires.numbered), omega arith),
      ),
    )
