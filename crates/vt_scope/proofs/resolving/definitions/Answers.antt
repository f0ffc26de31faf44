use Rattle.std.proofs.Common.{◌≡◌, ◌≤◌, ◌+◌, [], true, is_ok, length, take, sym, subst, arith}
use Rattle.std.proofs.lemmas.List.{take_all}
use Rattle.vt_scope.specs.Walking.{Gives}
use Rattle.vt_scope.specs.Definitions.{scope_after, def_events, AreDefs, no_defs}
use Rattle.vt_scope.proofs.Programs.{Gives-start, defs_step, defs_fail, tells_exit}
use Rattle.vt_scope.proofs.resolving.definitions.Goals as goal

pub loop-def-init : goal.loop-def-init
loop-def-init c s here =
    subst (λ items. Gives s (def_events c.args.constants.now s (take 0 c.args.defs.now)) c.args.walk.now c.args.walk.now
    (λ dims ls. AreDefs c.args.constants.now dims s c.args.walk.now.next (take 0 c.args.defs.now) items ls c.args.walk.now.next)) (sym c.new-cores.ensures.items)
    (Gives-start s c.args.walk.now (λ dims ls. AreDefs c.args.constants.now dims s c.args.walk.now.next (take 0 c.args.defs.now) [] ls c.args.walk.now.next) here (λ dims. no_defs))

pub loop-def-preserved : goal.loop-def-preserved
loop-def-preserved c s here =
    let before = c.loop-def.invariant s here in
    let pushed : is_ok c.push.result ≡ true = sym c.in_ok-map_err.ensures.variant in
    let items = rw pushed at c.push.ensures.items in
    let whole = take (c.loop-def.def-index + 1) c.args.defs.now in
    subst (λ cores. Gives (scope_after s whole) (def_events c.args.constants.now s whole) c.args.walk.now c.definition.new.walk
    (λ dims ls. AreDefs c.args.constants.now dims s c.args.walk.now.next whole cores ls c.definition.new.walk.next)) (sym items)
    (defs_step c.args.constants.now s c.args.defs.now c.loop-def.def-index c.def-item.result c.loop-def-test.true c.def-item.is
    c.args.walk.now c.loop-def.walk c.definition.new.walk c.loop-def.cores.items c.in_ok-core.core before (c.in_ok-core.ensures _ before.scope))

pub returns-in_err-core : goal.returns-in_err-core
returns-in_err-core c s here =
    let before = c.loop-def.invariant s here in
    tells_exit (scope_after s c.args.defs.now) (def_events c.args.constants.now s c.args.defs.now) c.args.walk.now c.definition.new.walk c.from_residual.result _ c.in_err-core.field-0.0 c.from_residual.ensures.1
    (defs_fail c.args.constants.now s c.args.defs.now c.loop-def.def-index c.def-item.result c.loop-def-test.true c.def-item.is
    c.args.walk.now c.loop-def.walk _ c.in_err-core.field-0.0 before (c.in_err-core.ensures _ before.scope))

pub returns : goal.returns
returns c s here =
    let past : length c.args.defs.now ≤ c.loop-def.def-index = omega arith in
    subst (λ cores. Gives (scope_after s c.args.defs.now) (def_events c.args.constants.now s c.args.defs.now) c.args.walk.now c.loop-def.walk
    (λ dims ls. AreDefs c.args.constants.now dims s c.args.walk.now.next c.args.defs.now cores ls c.loop-def.walk.next)) (sym c.new.ensures)
    (subst (λ all. Gives (scope_after s all) (def_events c.args.constants.now s all) c.args.walk.now c.loop-def.walk
    (λ dims ls. AreDefs c.args.constants.now dims s c.args.walk.now.next all c.loop-def.cores.items ls c.loop-def.walk.next))
    (take_all c.loop-def.def-index c.args.defs.now past) (c.loop-def.invariant s here))
