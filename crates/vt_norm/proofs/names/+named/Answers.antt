use Rattle.std.proofs.Common.{refl, ap, arith}
use Rattle.std.proofs.lemmas.Result.{IfOk-weaker}
use Rattle.vt_dec.specs.declared.side.Side.TheVariants.{Left, Right}
use Rattle.vt_norm.specs.Names.{IsNamedTree}
use Rattle.vt_norm.proofs.Naming.{opens, fewer-opens, named-found, named-joined}
use Rattle.vt_norm.proofs.names.+named.Goals as goal

pub named-requires : goal.named-requires
named-requires t c =
    let fewer = fewer-opens c.args.part.now c.in-Some-open_in.dim Left c.in-Some-open_in.ensures.open in
    (omega (arith, fewer, ap opens c.with.ensures), tt)

pub named-requires-in-Some-open_in : goal.named-requires-in-Some-open_in
named-requires-in-Some-open_in t c =
    let fewer = fewer-opens c.args.part.now c.in-Some-open_in.dim Right c.in-Some-open_in.ensures.open in
    (omega (arith, fewer, ap opens c.with-in-Some-open_in.ensures), tt)

pub returns-in_ok-copied-in-None : goal.returns-in_ok-copied-in-None
returns-in_ok-copied-in-None t c =
    named-found c.args.part.now c.args.met.now c.first_met-met.result.now c.in-Some.entry.now c.args.here.now _ c.args.cell c.first_met-met.ensures.alike c.first_met-met.ensures.first c.in-Some.ensures.value (c.in-None.ensures.none refl) c.in_ok-copied-in-None.ensures

pub returns-in_ok-right-in-Some-open_in : goal.returns-in_ok-right-in-Some-open_in
returns-in_ok-right-in-Some-open_in t c =
    IfOk-weaker c.joined.result _ (IsNamedTree c.args.part.now c.args.met.now c.args.here.now c.args.cell)
    (λ tree is. named-joined c.args.part.now _ _ c.args.met.now c.first_met-met.result.now c.args.here.now c.args.cell c.in-Some-open_in.dim _ _ tree c.first_met-met.ensures.alike c.in-Some-open_in.ensures.open c.with.ensures c.with-in-Some-open_in.ensures c.in_ok-left-in-Some-open_in.ensures c.in_ok-right-in-Some-open_in.ensures is)
    c.joined.ensures
