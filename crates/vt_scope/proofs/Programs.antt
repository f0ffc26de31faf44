use Rattle.std.proofs.Common.{◌≡◌, ℕ, suc, ◌+◌, ◌<◌, ◌≤◌, List, [], ◌∷◌, ◌++◌, length, take, drop, get_or, Option, None, Result, MatchResult, IsErrAnd, Err, refl, ap, sym, subst, ◌∙◌, append_assoc, arith}
use Rattle.std.proofs.Math.Seq.{take-suc, drop-cons}
use Rattle.std.proofs.lemmas.List.{append-nil, take-append-drop}
use Rattle.std.proofs.lemmas.Result.{err_from_is_err_and}
use Rattle.vt_type.specs.Constants.{Constant}
use Rattle.vt_syntax.specs.declared.expr.Expr.{Expr}
use Rattle.vt_syntax.specs.declared.program.Def.{Def}
use Rattle.vt_syntax.specs.declared.program.Program.{Program}
use Rattle.vt_syntax.specs.declared.core_expr.Core.{Core}
use Rattle.vt_syntax.specs.declared.core_program.CoreDef.{CoreDef}
use Rattle.vt_syntax.specs.declared.core_program.CoreProgram.{CoreProgram}
use Rattle.vt_syntax.specs.declared.leaf.Leaf.{Leaf}
use Rattle.vt_scope.specs.declared.fault.ScopeFault.{ScopeFault}
use Rattle.vt_scope.specs.declared.scope.Binder.{Binder}
use Rattle.vt_scope.specs.declared.walk.Walk.{Walk}
use Rattle.vt_scope.specs.Scopes.{defined, bound_under}
use Rattle.vt_scope.specs.Faults.{Event, events_of, nested_events, program_events, dims_of, dims_after, first_fault, IsFault}
use Rattle.vt_scope.specs.Cores as forms
use Rattle.vt_scope.specs.Cores.{IsCore, AreNested, IsCoreProgram, core_def}
use Rattle.vt_scope.specs.Walking.{numbered, Claim, Gives, Tells, HasCore}
use Rattle.vt_scope.specs.Definitions.{scope_after, def_events, IsDef, is_def, AreDefs, no_defs, and_def}
use Rattle.vt_scope.proofs.EventLists.{IsFault-first, Extends-same}
use Rattle.vt_scope.proofs.Dimensions.{dims-any, few}
use Rattle.vt_scope.proofs.Giving.{both, later, Gives-map, Gives-numbered}

-- Definitions in order, and the expression behind them.

pub scope_after-append : (s : List Binder) (defs others : List Def) → scope_after s (defs ++ others) ≡ scope_after (scope_after s defs) others
scope_after-append s [] others = refl
scope_after-append s (def ∷ defs) others = scope_after-append (defined def.name ∷ s) defs others

module _ (constants : List Constant) where
  -- what is met in one definition
  abbrev pub own_events : List Binder → Def → List Event
  own_events s def = events_of constants (bound_under def.recursive def.name s) def.body

  pub def_events-append : (s : List Binder) (defs others : List Def) → def_events constants s (defs ++ others) ≡ def_events constants s defs ++ def_events constants (scope_after s defs) others
  def_events-append s [] others = refl
  def_events-append s (def ∷ defs) others =
      ap (λ es. own_events s def ++ es) (def_events-append (defined def.name ∷ s) defs others)
      ∙ sym (append_assoc (own_events s def) (def_events constants (defined def.name ∷ s) defs) (def_events constants (scope_after (defined def.name ∷ s) defs) others))

  pub nested_events-defs : (s : List Binder) (defs : List Def) (main : Expr) → nested_events constants s defs main ≡ def_events constants s defs ++ events_of constants (scope_after s defs) main
  nested_events-defs s [] main = refl
  nested_events-defs s (def ∷ defs) main =
      ap (λ es. own_events s def ++ es) (nested_events-defs (defined def.name ∷ s) defs main)
      ∙ sym (append_assoc (own_events s def) (def_events constants (defined def.name ∷ s) defs) (events_of constants (scope_after (defined def.name ∷ s) defs) main))

  -- the definitions, and then what comes behind them
  pub nested-defs : (dims : List (List ℕ)) (s : List Binder) (n : ℕ) (defs others : List Def) (main : Expr) (cores rest : List CoreDef) (c : Core) (ls ks : List Leaf) (m k : ℕ)
      → AreDefs constants dims s n defs cores ls m → AreNested constants dims (scope_after s defs) m others main rest c ks k
      → AreNested constants dims s n (defs ++ others) main (cores ++ rest) c (ls ++ ks) k
  nested-defs dims s _ _ others main _ rest c _ ks _ k no_defs g = g
  nested-defs dims s n _ others main _ rest c _ ks _ k (and_def defs cores ls js i m def core p q) g =
      subst (λ xs. AreNested constants dims s n xs main ((cores ++ core ∷ []) ++ rest) c ((ls ++ js) ++ ks) k) (sym (append_assoc defs (def ∷ []) others))
      (subst (λ xs. AreNested constants dims s n (defs ++ (def ∷ others)) main xs c ((ls ++ js) ++ ks) k) (sym (append_assoc cores (core ∷ []) rest))
      (subst (λ xs. AreNested constants dims s n (defs ++ (def ∷ others)) main (cores ++ (core ∷ rest)) c xs k) (sym (append_assoc ls js ks))
      (nested-defs dims s n defs (def ∷ others) main cores (core ∷ rest) c ls (js ++ ks) i k p
      (one_more i m def core js q (subst (λ t. AreNested constants dims t m others main rest c ks k) (scope_after-append s defs (def ∷ [])) g)))))
    where
      one_more : (i m : ℕ) (def : Def) (core : CoreDef) (js : List Leaf) → IsDef constants dims (scope_after s defs) i def core js m
          → AreNested constants dims (defined def.name ∷ scope_after s defs) m others main rest c ks k
          → AreNested constants dims (scope_after s defs) i (def ∷ others) main (core ∷ rest) c (js ++ ks) k
      one_more i m def core js (is_def i1 m1 def1 c1 ls1 p1) rest_is = forms.def (scope_after s defs) i1 m1 k def1 others main c1 rest c ls1 ks p1 rest_is

-- before anything is met
pub Gives-start : (s : List Binder) (a : Walk) (P : Claim) → a.scope ≡ s → ((dims : List (List ℕ)) → P dims []) → Gives s [] a a P
Gives-start s a P here claim = record {
  scope = here;
  dims = refl;
  no_fault = refl;
  leaves = [];
  leaves_are = sym (append-nil a.leaves);
  holds = λ dims more. claim dims;
}

-- the binders are changed at the end
pub Gives-push : (s t pushed : List Binder) (es : List Event) (a b : Walk) (P : Claim) → pushed ≡ t → Gives s es a b P → Gives t es a (record b { scope = pushed }) P
Gives-push s t pushed es a b P is g = record {
  scope = is;
  dims = g.dims;
  no_fault = g.no_fault;
  leaves = g.leaves;
  leaves_are = g.leaves_are;
  holds = g.holds;
}

module _ (constants : List Constant) (s : List Binder) (defs : List Def) (i : ℕ) (def : Def) (within : i < length defs) (is : def ≡ get_or defs i def) where
  abbrev before : List Def
  before = take i defs

  one_more : take (i + 1) defs ≡ before ++ def ∷ []
  one_more =
      let e : i + 1 ≡ suc i = omega arith in
      ap (λ n. take n defs) e ∙ take-suc defs i def within ∙ ap (λ own. before ++ own ∷ []) (sym is)

  rest_is : defs ≡ before ++ (def ∷ drop (suc i) defs)
  rest_is = sym (take-append-drop i defs) ∙ ap (λ all. before ++ all) (drop-cons defs i def within ∙ ap (λ own. own ∷ drop (suc i) defs) (sym is))

  -- a definition more
  pub defs_step : (a b c : Walk) (cores : List CoreDef) (core : CoreDef)
      → Gives (scope_after s before) (def_events constants s before) a b (λ dims ls. AreDefs constants dims s a.next before cores ls b.next)
      → Gives (defined def.name ∷ scope_after s before) (own_events constants (scope_after s before) def) b c (λ dims ls. IsDef constants dims (scope_after s before) b.next def core ls c.next)
      → Gives (scope_after s (take (i + 1) defs)) (def_events constants s (take (i + 1) defs)) a c (λ dims ls. AreDefs constants dims s a.next (take (i + 1) defs) (cores ++ core ∷ []) ls c.next)
  defs_step a b c cores core g h =
      let P : Claim = λ dims ls. AreDefs constants dims s a.next (before ++ def ∷ []) (cores ++ core ∷ []) ls c.next in
      subst (λ all. Gives (scope_after s all) (def_events constants s all) a c (λ dims ls. AreDefs constants dims s a.next all (cores ++ core ∷ []) ls c.next)) (sym one_more)
      (subst (λ t. Gives t (def_events constants s (before ++ def ∷ [])) a c P) (sym (scope_after-append s before (def ∷ [])))
      (subst (λ es. Gives (defined def.name ∷ scope_after s before) es a c P)
      (ap (λ es. def_events constants s before ++ es) (sym (append-nil (own_events constants (scope_after s before) def))) ∙ sym (def_events-append constants s before (def ∷ [])))
      (both (scope_after s before) (defined def.name ∷ scope_after s before) (def_events constants s before) (own_events constants (scope_after s before) def) a b c
      (λ dims ls. AreDefs constants dims s a.next before cores ls b.next) (λ dims ls. IsDef constants dims (scope_after s before) b.next def core ls c.next) P g h
      (λ dims ls ks p q. and_def before cores ls ks b.next c.next def core p q))))

  -- a definition in which something is refused
  pub defs_fail : (a b : Walk) (P : Claim) (fault : ScopeFault)
      → Gives (scope_after s before) (def_events constants s before) a b P
      → IsFault (first_fault b.dims (own_events constants (scope_after s before) def)) fault
      → IsFault (first_fault a.dims (def_events constants s defs)) fault
  defs_fail a b P fault g h =
      subst (λ es. IsFault (first_fault a.dims es) fault) (sym (ap (def_events constants s) rest_is ∙ def_events-append constants s before (def ∷ drop (suc i) defs)))
      (later (scope_after s before) (def_events constants s before)
      (own_events constants (scope_after s before) def ++ def_events constants (defined def.name ∷ scope_after s before) (drop (suc i) defs)) a b P fault g
      (IsFault-first b.dims (own_events constants (scope_after s before) def) (def_events constants (defined def.name ∷ scope_after s before) (drop (suc i) defs)) fault h))

-- a definition, by its parts
pub def_given : (constants : List Constant) (s : List Binder) (def : Def) (a b c : Walk) (pushed : List Binder) (core : Core) (node : ℕ)
    → node ≡ b.next → c ≡ numbered b → pushed ≡ defined def.name ∷ c.scope
    → Gives s (events_of constants (bound_under def.recursive def.name s) def.body) a b (HasCore constants (bound_under def.recursive def.name s) def.body a b core)
    → Gives (defined def.name ∷ s) (events_of constants (bound_under def.recursive def.name s) def.body) a (record c { scope = pushed })
    (λ dims ls. IsDef constants dims s a.next def (core_def def node core) ls c.next)
def_given constants s def a b c pushed core node own taken push g =
    let es : List Event = events_of constants (bound_under def.recursive def.name s) def.body in
    Gives-push s (defined def.name ∷ s) pushed es a c (λ dims ls. IsDef constants dims s a.next def (core_def def node core) ls c.next)
    (push ∙ ap (λ t. defined def.name ∷ t) (ap (λ w. w.scope) taken ∙ g.scope))
    (subst (λ w. Gives s es a w (λ dims ls. IsDef constants dims s a.next def (core_def def node core) ls w.next)) (sym taken)
    (subst (λ n. Gives s es a (numbered b) (λ dims ls. IsDef constants dims s a.next def (core_def def n core) ls (suc b.next))) (sym own)
    (Gives-numbered s es a b (λ dims ls. IsDef constants dims s a.next def (core_def def b.next core) ls (suc b.next))
    (Gives-map s es a b (HasCore constants (bound_under def.recursive def.name s) def.body a b core) (λ dims ls. IsDef constants dims s a.next def (core_def def b.next core) ls (suc b.next)) g
    (λ dims ls p. is_def a.next b.next def core ls p)))))

module _ (constants : List Constant) (program : Program) (start : Walk) (here : start.scope ≡ []) (first : start.next ≡ 1) (unmet : start.dims ≡ []) (bare : start.leaves ≡ []) where
  abbrev after : List Binder
  after = scope_after [] program.defs

  -- the definitions and the main expression
  pub program_given : (a b : Walk) (cores : List CoreDef) (c : Core)
      → Gives after (def_events constants [] program.defs) start a (λ dims ls. AreDefs constants dims [] start.next program.defs cores ls a.next)
      → Gives after (events_of constants after program.main) a b (HasCore constants after program.main a b c)
      → Gives after (program_events constants program) start b (λ dims ls. AreNested constants dims [] start.next program.defs program.main cores c ls b.next)
  program_given a b cores c g h =
      subst (λ es. Gives after es start b (λ dims ls. AreNested constants dims [] start.next program.defs program.main cores c ls b.next)) (sym (nested_events-defs constants [] program.defs program.main))
      (both after after (def_events constants [] program.defs) (events_of constants after program.main) start a b
      (λ dims ls. AreDefs constants dims [] start.next program.defs cores ls a.next) (HasCore constants after program.main a b c)
      (λ dims ls. AreNested constants dims [] start.next program.defs program.main cores c ls b.next) g h
      (λ dims ls ks p q.
      subst (λ defs. AreNested constants dims [] start.next defs program.main cores c (ls ++ ks) b.next) (append-nil program.defs)
      (subst (λ all. AreNested constants dims [] start.next (program.defs ++ []) program.main all c (ls ++ ks) b.next) (append-nil cores)
      (nested-defs constants dims [] start.next program.defs [] program.main cores [] c ls ks a.next b.next p (forms.main after a.next b.next program.main c ks q)))))

  pub program_core : (b : Walk) (core : CoreProgram)
      → Gives after (program_events constants program) start b (λ dims ls. AreNested constants dims [] start.next program.defs program.main core.defs core.main ls b.next)
      → IsCoreProgram constants b.dims program core b.leaves
  program_core b core g = record {
    next = b.next;
    nested =
        subst (λ n. AreNested constants b.dims [] n program.defs program.main core.defs core.main b.leaves b.next) first
        (subst (λ ls. AreNested constants b.dims [] start.next program.defs program.main core.defs core.main ls b.next) (sym (g.leaves_are ∙ ap (λ ls. ls ++ g.leaves) bare))
        (g.holds b.dims (Extends-same b.dims)));
  }

  pub program_free : (b : Walk) (P : Claim) → Gives after (program_events constants program) start b P → first_fault [] (program_events constants program) ≡ None
  program_free b P g = ap (λ dims. first_fault dims (program_events constants program)) (sym unmet) ∙ g.no_fault

  pub defs_refused : (fault : ScopeFault) → IsFault (first_fault start.dims (def_events constants [] program.defs)) fault → IsFault (first_fault [] (program_events constants program)) fault
  defs_refused fault h =
      subst (λ dims. IsFault (first_fault dims (program_events constants program)) fault) unmet
      (subst (λ es. IsFault (first_fault start.dims es) fault) (sym (nested_events-defs constants [] program.defs program.main))
      (IsFault-first start.dims (def_events constants [] program.defs) (events_of constants after program.main) fault h))

  pub main_refused : (a : Walk) (P : Claim) (fault : ScopeFault)
      → Gives after (def_events constants [] program.defs) start a P
      → IsFault (first_fault a.dims (events_of constants after program.main)) fault → IsFault (first_fault [] (program_events constants program)) fault
  main_refused a P fault g h =
      subst (λ dims. IsFault (first_fault dims (program_events constants program)) fault) unmet
      (subst (λ es. IsFault (first_fault start.dims es) fault) (sym (nested_events-defs constants [] program.defs program.main))
      (later after (def_events constants [] program.defs) (events_of constants after program.main) start a P fault g h))

  -- the dimensions are those of the program, and not more than the most
  pub program_dims : (b : Walk) (P : Claim) → Gives after (program_events constants program) start b P → b.dims ≡ dims_of program
  program_dims b P g = g.dims ∙ ap (λ dims. dims_after dims (program_events constants program)) unmet ∙ dims-any constants program

  pub program_few : (b : Walk) (P : Claim) → Gives after (program_events constants program) start b P → length b.dims ≤ 64
  program_few b P g =
      subst (λ dims. length dims ≤ 64) (sym g.dims)
      (few (program_events constants program) start.dims (subst (λ dims. length dims ≤ 64) (sym unmet) (let none : 0 ≤ 64 = omega arith in none)) g.no_fault)

-- the exit of a call in which something was refused
pub tells_exit : {A : Type 0} (s : List Binder) (es : List Event) (a d : Walk) (r : Result A ScopeFault) (P : A → Claim) (fault : ScopeFault)
    → IsErrAnd r (λ own. own ≡ fault) → IsFault (first_fault a.dims es) fault → Tells s es a d r P
tells_exit s es a d r P fault exit h =
    let own = err_from_is_err_and r exit in
    subst (λ one. Tells s es a d one P) (sym (own.1 ∙ ap Err own.2)) h

pub fault_exit : {A : Type 0} (first : Option ScopeFault) (r : Result A ScopeFault) (P : A → Type 0) (fault : ScopeFault)
    → IsErrAnd r (λ own. own ≡ fault) → IsFault first fault → MatchResult r P (IsFault first)
fault_exit first r P fault exit h =
    let own = err_from_is_err_and r exit in
    subst (λ one. MatchResult one P (IsFault first)) (sym (own.1 ∙ ap Err own.2)) h
