use Rattle.std.proofs.Common.{length, ap, subst, arith, below_more, IfOk, IfErr}
use Rattle.std.proofs.lemmas.Result.{IfOk-weaker, IfErr-weaker}
use Rattle.vt_top.specs.Steps.{IsPartFault, IsPartType}
use Rattle.vt_top.proofs.PartTypes.{fault_at, fitting, main_is}
use Rattle.vt_top.proofs.typing.parts_type.Goals as goal

-- the parts so far, and all of them at the end
pub loop-part-preserved : goal.loop-part-preserved
loop-part-preserved c =
    below_more _ _ c.loop-part.invariant (fitting c.args.core.now c.loop-part.part c.in-Ok.normal c.in-Ok.ensures.typed)

pub returns-in-Err-clause-fault : goal.returns-in-Err-clause-fault
returns-in-Err-clause-fault c =
    let count = ap length c.as_slice-count.ensures in
    fault_at c.args.core.now c.loop-part.part c.in-Err.fault (omega arith) c.loop-part.invariant c.in-Err.ensures.fault

pub returns-clause-typed : goal.returns-clause-typed
returns-clause-typed c =
    let core = c.args.core.now in
    let count = ap length c.as_slice-count.ensures in
    let typed = subst (λ n. IfOk c.part_type-2.result (IsPartType core n)) count c.part_type-2.ensures.typed in
    IfOk-weaker c.part_type-2.result _ _ (λ type is. main_is core type (λ part below. c.loop-part.invariant part (omega arith)) is) typed

pub returns-clause-fault : goal.returns-clause-fault
returns-clause-fault c =
    let core = c.args.core.now in
    let count = ap length c.as_slice-count.ensures in
    let faulty = subst (λ n. IfErr c.part_type-2.result (IsPartFault core n)) count c.part_type-2.ensures.fault in
    IfErr-weaker c.part_type-2.result _ _ (λ fault is. fault_at core (length core.defs) fault (omega arith) (λ part below. c.loop-part.invariant part (omega arith)) is) faulty
