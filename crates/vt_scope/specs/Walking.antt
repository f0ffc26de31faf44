use Rattle.std.specs.Prelude.{◌≡◌, ℕ, suc, Bool, List, [], ◌∷◌, ◌++◌, None, Result, MatchResult}
use Rattle.vt_lex.specs.declared.span.Span.{Span}
use Rattle.vt_type.specs.Constants.{Constant}
use Rattle.vt_syntax.specs.declared.expr.Expr.{Expr}
use Rattle.vt_syntax.specs.declared.expr.Exprs.{Exprs}
use Rattle.vt_syntax.specs.declared.core_expr.Core.{Core}
use Rattle.vt_syntax.specs.declared.leaf.Leaf.{Leaf}
use Rattle.vt_scope.specs.declared.fault.ScopeFault.{ScopeFault}
use Rattle.vt_scope.specs.declared.scope.Binder.{Binder}
use Rattle.vt_scope.specs.declared.walk.Walk.{Walk}
use Rattle.vt_scope.specs.Scopes.{parameter, bound_under}
use Rattle.vt_scope.specs.Faults.{Event, events_of, item_events, dims_after, first_fault, IsFault}
use Rattle.vt_scope.specs.Cores.{IsCore, AreItems, applied, function}

-- What a walk over a program has done.

-- one number more is taken
abbrev pub numbered : Walk → Walk
numbered walk = record walk { next = suc walk.next }

-- one leaf more is noted
abbrev pub noted : Walk → Leaf → Walk
noted walk one = record walk { leaves = walk.leaves ++ one ∷ [] }

-- names, and maybe more behind them
abbrev pub Extends : List (List ℕ) → List (List ℕ) → Type 0
Extends names longer = (more : List (List ℕ)) × (longer ≡ names ++ more)

-- what may be claimed of leaves, where the dimensions have these names
abbrev pub Claim : Type 1
Claim = List (List ℕ) → List Leaf → Type 0

-- From one state to another under binders that stay: these events were met, and none was refused; and
-- the claim holds of the leaves that were noted, by the dimensions known now and maybe more.
pub record Gives (s : List Binder) (events : List Event) (old new : Walk) (claim : Claim) : Type 0 where
  pub scope : new.scope ≡ s
  pub dims : new.dims ≡ dims_after old.dims events
  pub no_fault : first_fault old.dims events ≡ None
  pub leaves : List Leaf
  pub leaves_are : new.leaves ≡ old.leaves ++ leaves
  pub holds : (dims : List (List ℕ)) → Extends new.dims dims → claim dims leaves

-- it gives what is claimed, or the first fault of the events
abbrev pub Tells : {A : Type 0} → List Binder → List Event → Walk → Walk → Result A ScopeFault → (A → Claim) → Type 0
Tells s events old new result claim = MatchResult result (λ given. Gives s events old new (claim given)) (IsFault (first_fault old.dims events))

-- the core of an expression under these binders, from one state to another
abbrev pub HasCore : List Constant → List Binder → Expr → Walk → Walk → Core → Claim
HasCore constants s e old new c dims ls = IsCore constants dims s old.next e c ls new.next

abbrev pub Answers : List Constant → Expr → Walk → Walk → Result Core ScopeFault → Type 0
Answers constants e old new result =
    (s : List Binder) → old.scope ≡ s → Tells s (events_of constants s e) old new result (HasCore constants s e old new)

-- the same under one binder more
abbrev pub AnswersUnder : List Constant → Binder → Expr → Walk → Walk → Result Core ScopeFault → Type 0
AnswersUnder constants binder e old new result =
    (s : List Binder) → old.scope ≡ s → Tells s (events_of constants (binder ∷ s) e) old new result (HasCore constants (binder ∷ s) e old new)

-- the same of an expression that is bound to a name
abbrev pub AnswersBound : List Constant → Bool → List ℕ → Expr → Walk → Walk → Result Core ScopeFault → Type 0
AnswersBound constants recursive name e old new result =
    (s : List Binder) → old.scope ≡ s
    → Tells s (events_of constants (bound_under recursive name s) e) old new result (HasCore constants (bound_under recursive name s) e old new)

-- a core expression, and the core of an expression that it is applied to
pub data IsApplied (constants : List Constant) (dims : List (List ℕ)) (s : List Binder) (at : Span) : ℕ → Core → Expr → Core → List Leaf → ℕ → Type 0 where
  applies : (n m : ℕ) (f : Core) (e : Expr) (c : Core) (ls : List Leaf)
      → IsCore constants dims s n e c ls m → IsApplied constants dims s at n f e (applied m at f c) ls (suc m)

abbrev pub HasApplied : List Constant → List Binder → Span → Core → Expr → Walk → Walk → Core → Claim
HasApplied constants s at f e old new c dims ls = IsApplied constants dims s at old.next f e c ls new.next

abbrev pub AnswersApplied : List Constant → Span → Core → Expr → Walk → Walk → Result Core ScopeFault → Type 0
AnswersApplied constants at f e old new result =
    (s : List Binder) → old.scope ≡ s → Tells s (events_of constants s e) old new result (HasApplied constants s at f e old new)

-- the arm of a `match` for a first element and the rest, as a function of both
pub data IsArm (constants : List Constant) (dims : List (List ℕ)) (s : List Binder) (first rest : List ℕ) (here : Span) : ℕ → Expr → Core → List Leaf → ℕ → Type 0 where
  arm : (n m : ℕ) (e : Expr) (c : Core) (ls : List Leaf)
      → IsCore constants dims (parameter rest ∷ parameter first ∷ s) n e c ls m
      → IsArm constants dims s first rest here n e (function (suc m) here (function m here c)) ls (suc (suc m))

abbrev pub HasArm : List Constant → List Binder → List ℕ → List ℕ → Span → Expr → Walk → Walk → Core → Claim
HasArm constants s first rest here e old new c dims ls = IsArm constants dims s first rest here old.next e c ls new.next

abbrev pub AnswersArm : List Constant → List ℕ → List ℕ → Span → Expr → Walk → Walk → Result Core ScopeFault → Type 0
AnswersArm constants first rest here e old new result =
    (s : List Binder) → old.scope ≡ s
    → Tells s (events_of constants (parameter rest ∷ parameter first ∷ s) e) old new result (HasArm constants s first rest here e old new)

-- the core of the items that are left of a list
abbrev pub HasItems : List Constant → List Binder → Span → Span → Exprs → Walk → Walk → Core → Claim
HasItems constants s whole here items old new c dims ls = AreItems constants dims s whole here old.next items c ls new.next

abbrev pub AnswersItems : List Constant → Span → Span → Exprs → Walk → Walk → Result Core ScopeFault → Type 0
AnswersItems constants whole here items old new result =
    (s : List Binder) → old.scope ≡ s → Tells s (item_events constants s items) old new result (HasItems constants s whole here items old new)
