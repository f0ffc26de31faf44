use Rattle.std.specs.Prelude.{◌≡◌, ℕ, suc, List, [], ◌∷◌, ◌++◌, Result}
use Rattle.vt_type.specs.Constants.{Constant}
use Rattle.vt_syntax.specs.declared.program.Def.{Def}
use Rattle.vt_syntax.specs.declared.core_expr.Core.{Core}
use Rattle.vt_syntax.specs.declared.core_program.CoreDef.{CoreDef}
use Rattle.vt_syntax.specs.declared.leaf.Leaf.{Leaf}
use Rattle.vt_scope.specs.declared.fault.ScopeFault.{ScopeFault}
use Rattle.vt_scope.specs.declared.scope.Binder.{Binder}
use Rattle.vt_scope.specs.declared.walk.Walk.{Walk}
use Rattle.vt_scope.specs.Scopes.{defined, bound_under}
use Rattle.vt_scope.specs.Faults.{Event, events_of}
use Rattle.vt_scope.specs.Cores.{IsCore, core_def}
use Rattle.vt_scope.specs.Walking.{Tells}

-- What a walk over definitions has done.

-- the binders behind definitions
abbrev pub scope_after : List Binder → List Def → List Binder
scope_after s [] = s
scope_after s (def ∷ defs) = scope_after (defined def.name ∷ s) defs

-- what is met in definitions
abbrev pub def_events : List Constant → List Binder → List Def → List Event
def_events constants s [] = []
def_events constants s (def ∷ defs) = events_of constants (bound_under def.recursive def.name s) def.body ++ def_events constants (defined def.name ∷ s) defs

-- the core of a definition, from its first number to the first behind it
pub data IsDef (constants : List Constant) (dims : List (List ℕ)) (s : List Binder) : ℕ → Def → CoreDef → List Leaf → ℕ → Type 0 where
  is_def : (n m : ℕ) (def : Def) (c : Core) (ls : List Leaf)
      → IsCore constants dims (bound_under def.recursive def.name s) n def.body c ls m → IsDef constants dims s n def (core_def def m c) ls (suc m)

-- the cores of definitions, one more at the end
pub data AreDefs (constants : List Constant) (dims : List (List ℕ)) (s : List Binder) (n : ℕ) : List Def → List CoreDef → List Leaf → ℕ → Type 0 where
  no_defs : AreDefs constants dims s n [] [] [] n
  and_def : (defs : List Def) (cores : List CoreDef) (ls ks : List Leaf) (m k : ℕ) (def : Def) (core : CoreDef)
      → AreDefs constants dims s n defs cores ls m → IsDef constants dims (scope_after s defs) m def core ks k
      → AreDefs constants dims s n (defs ++ def ∷ []) (cores ++ core ∷ []) (ls ++ ks) k

abbrev pub AnswersDef : List Constant → Def → Walk → Walk → Result CoreDef ScopeFault → Type 0
AnswersDef constants def old new result =
    (s : List Binder) → old.scope ≡ s
    → Tells (defined def.name ∷ s) (events_of constants (bound_under def.recursive def.name s) def.body) old new result
    (λ core dims ls. IsDef constants dims s old.next def core ls new.next)

abbrev pub AnswersDefs : List Constant → List Def → Walk → Walk → Result (List CoreDef) ScopeFault → Type 0
AnswersDefs constants defs old new result =
    (s : List Binder) → old.scope ≡ s
    → Tells (scope_after s defs) (def_events constants s defs) old new result (λ cores dims ls. AreDefs constants dims s old.next defs cores ls new.next)
