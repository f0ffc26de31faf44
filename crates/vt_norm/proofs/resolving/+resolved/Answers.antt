use Rattle.std.proofs.Common.{ap, arith}
use Rattle.std.proofs.lemmas.Result.{IfOk-weaker}
use Rattle.vt_dec.specs.declared.side.Side.TheVariants.{Left, Right}
use Rattle.vt_norm.specs.Resolving.{IsResolved}
use Rattle.vt_norm.proofs.Naming.{opens, fewer-opens}
use Rattle.vt_norm.proofs.Following.{resolved-both}
use Rattle.vt_norm.proofs.resolving.+resolved.Goals as goal

pub resolved-requires : goal.resolved-requires
resolved-requires t c =
    let split = rw c.in-Split.is at c.in_ok-spot.ensures in
    (omega (arith, fewer-opens c.args.part.now c.in-Split.dim Left split.2, ap opens c.with.ensures), (split.0, c.requires.space))

pub resolved-requires-in-Split : goal.resolved-requires-in-Split
resolved-requires-in-Split t c =
    let split = rw c.in-Split.is at c.in_ok-spot.ensures in
    (omega (arith, fewer-opens c.args.part.now c.in-Split.dim Right split.2, ap opens c.with-in-Split.ensures), (split.0, c.requires.space))

pub returns-in_ok-right-in-Split : goal.returns-in_ok-right-in-Split
returns-in_ok-right-in-Split t c =
    let split = rw c.in-Split.is at c.in_ok-spot.ensures in
    IfOk-weaker c.joined.result _ (IsResolved c.args.store.now c.args.part.now c.args.cell)
    (λ front joined. resolved-both c.args.store.now c.args.part.now _ _ c.args.cell c.in-Split.last c.in-Split.dim _ _ front split.1 split.2 c.with.ensures c.with-in-Split.ensures c.in_ok-left-in-Split.ensures c.in_ok-right-in-Split.ensures joined)
    c.joined.ensures
