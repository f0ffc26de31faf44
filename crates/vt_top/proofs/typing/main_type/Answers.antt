use Rattle.std.proofs.Common.{◌≤◌, length, lit<, sym, subst, arith}
use Rattle.std.proofs.lemmas.Result.{IfOk-weaker}
use Rattle.vt_syntax.specs.Scoping.{IsClosed}
use Rattle.vt_top.proofs.PartTypes.{closed_in_all, main_dims}
use Rattle.vt_top.proofs.typing.main_type.Goals as goal

pub infer-typed-requires : goal.infer-typed-requires
infer-typed-requires c =
    let core = c.args.source.now.resolved.core in
    let one : 1 ≤ 64 = omega arith in
    (lit< tt, (subst (λ K. IsClosed (length K) 64 core) (sym c.requires.constants) (closed_in_all core _ c.requires.typable), (c.requires.typable.numbered, one)))

pub returns-in-Ok-clause-dims : goal.returns-in-Ok-clause-dims
returns-in-Ok-clause-dims c =
    IfOk-weaker c.parts_type.result _ _ (λ type is. main_dims c.args.source.now.resolved.core _ type c.requires.typable is) c.parts_type.ensures.typed
