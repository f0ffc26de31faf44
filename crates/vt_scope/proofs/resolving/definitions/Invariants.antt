use Rattle.std.proofs.Common.{◌≡◌, List, take}
use Rattle.vt_scope.specs.declared.scope.Binder.{Binder}
use Rattle.vt_scope.specs.Walking.{Gives}
use Rattle.vt_scope.specs.Definitions.{scope_after, def_events, AreDefs}
use Rattle.vt_scope.proofs.resolving.definitions.Given as goal

abbrev pub invariant-loop-def : goal.invariant-loop-def
invariant-loop-def l =
    (s : List Binder) → l.initial.walk.scope ≡ s
    → Gives (scope_after s (take l.def-index l.defs)) (def_events l.constants s (take l.def-index l.defs)) l.initial.walk l.walk
    (λ dims ls. AreDefs l.constants dims s l.initial.walk.next (take l.def-index l.defs) l.cores.items ls l.walk.next)
