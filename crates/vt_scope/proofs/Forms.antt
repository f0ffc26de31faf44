use Rattle.std.proofs.lemmas.Result.{err_from_is_err_and}
use Rattle.std.proofs.Common.{◌≡◌, ℕ, suc, Bool, List, [], ◌∷◌, ◌++◌, Some, None, Result, MatchResult, IsErrAnd, Ok, Err, refl, ap, sym, subst, ◌∙◌, slice_get}
use Rattle.vt_lex.specs.declared.span.Span.{Span}
use Rattle.vt_type.specs.Constants.{Constant}
use Rattle.vt_syntax.specs.declared.expr.Op.{Op}
use Rattle.vt_syntax.specs.declared.expr.Expr.{Expr}
use Rattle.vt_syntax.specs.declared.expr.Exprs.{Exprs, Nil}
use Rattle.vt_syntax.specs.declared.expr.ExprForm.{ExprForm}
use Rattle.vt_syntax.specs.declared.expr.ExprForm as form
use Rattle.vt_syntax.specs.declared.core_expr.Core.{Core}
use Rattle.vt_syntax.specs.declared.core_expr.Form.{Hole}
use Rattle.vt_syntax.specs.declared.leaf.Leaf.{Leaf}
use Rattle.vt_syntax.specs.declared.leaf.Class.TheVariants as class
use Rattle.vt_syntax.specs.Leaves.{leaf}
use Rattle.vt_syntax.specs.SurfaceTrees as surface
use Rattle.vt_syntax.specs.SurfaceTrees.{expr, exprs}
use Rattle.vt_syntax.specs.CoreTrees.{core, choice_form}
use Rattle.vt_scope.specs.declared.fault.ScopeFault.{ScopeFault}
use Rattle.vt_scope.specs.declared.fault.ScopeFault.TheVariants.{Memory}
use Rattle.vt_scope.specs.declared.scope.Binder.{Binder}
use Rattle.vt_scope.specs.declared.walk.Walk.{Walk}
use Rattle.vt_scope.specs.Scopes.{parameter, defined, bound_under}
use Rattle.vt_scope.specs.Faults.{Event, Dimension, with_dim, events_of, item_events, refused, first_of, first_fault, IsFault}
use Rattle.vt_scope.specs.Cores as cores
use Rattle.vt_scope.specs.Cores.{IsCore, AreItems, applied, function, constant, op_id, pair_id, nil_id, cons_id, cond_id, split_id, bound_form, left_span, up_to}
use Rattle.vt_scope.specs.Walking.{numbered, noted, Claim, Gives, Tells, Answers, AnswersApplied, AnswersArm, HasCore, HasApplied, HasArm, HasItems, IsApplied, applies, IsArm, arm}
use Rattle.vt_scope.proofs.EventLists.{IsFault-first, slice_get-Extends}
use Rattle.vt_scope.proofs.Giving.{Gives-map, Gives-none, Gives-leaf, Gives-numbered, numbered-Gives, Gives-noted, Gives-scope, dimension-Gives, both, later, IsFault-Memory, Tells-map, Tells-last}

-- The steps of each form, whatever binders stand around it.

abbrev pub Events : Type 0
Events = List Binder → List Event

abbrev pub Given : Events → Walk → Walk → (List Binder → Claim) → Type 0
Given E a b P = (s : List Binder) → a.scope ≡ s → Gives s (E s) a b (P s)

abbrev pub Refused : Events → Walk → ScopeFault → Type 0
Refused E a fault = (s : List Binder) → a.scope ≡ s → IsFault (first_fault a.dims (E s)) fault

abbrev pub Told : {A : Type 0} → Events → Walk → Walk → Result A ScopeFault → (List Binder → A → Claim) → Type 0
Told E a d r P = (s : List Binder) → a.scope ≡ s → Tells s (E s) a d r (P s)

-- a number was taken first
module _ (a start : Walk) (taken : start ≡ numbered a) (E : Events) where
  pub given_numbered : (b : Walk) (P : List Binder → Walk → Claim) → Given E start b (λ s. P s start) → Given E a b (λ s. P s (numbered a))
  given_numbered b P g s h =
      numbered-Gives s (E s) a b (P s (numbered a)) (subst (λ w. Gives s (E s) w b (P s w)) taken (g s (ap (λ w. w.scope) taken ∙ h)))

  pub refused_numbered : (fault : ScopeFault) → Refused E start fault → Refused E a fault
  refused_numbered fault g s h = subst (λ w. IsFault (first_fault w.dims (E s)) fault) taken (g s (ap (λ w. w.scope) taken ∙ h))

-- a number was taken last
pub numbered_given : (E : Events) (a b last : Walk) (P : List Binder → Claim) → last ≡ numbered b → Given E a b P → Given E a last P
numbered_given E a b last P taken g s h = subst (λ w. Gives s (E s) a w (P s)) (sym taken) (Gives-numbered s (E s) a b (P s) (g s h))

module _ (E F : Events) (a : Walk) where
  pub given_then : (b c : Walk) (P Q R : List Binder → Claim) → Given E a b P → Given F b c Q
      → ((s : List Binder) (dims : List (List ℕ)) (ls ks : List Leaf) → P s dims ls → Q s dims ks → R s dims (ls ++ ks))
      → Given (λ s. E s ++ F s) a c R
  given_then b c P Q R g h next s here =
      let first = g s here in
      both s s (E s) (F s) a b c (P s) (Q s) (R s) first (h s first.scope) (next s)

  pub refused_first : (fault : ScopeFault) → Refused E a fault → Refused (λ s. E s ++ F s) a fault
  refused_first fault g s here = IsFault-first a.dims (E s) (F s) fault (g s here)

  pub refused_then : (b : Walk) (P : List Binder → Claim) (fault : ScopeFault) → Given E a b P → Refused F b fault → Refused (λ s. E s ++ F s) a fault
  refused_then b P fault g h s here =
      let first = g s here in
      later s (E s) (F s) a b (P s) fault first (h s first.scope)

  pub told_then : {A : Type 0} (b d : Walk) (r : Result A ScopeFault) (P : List Binder → Claim) (Q R : List Binder → A → Claim) → Given E a b P → Told F b d r Q
      → ((s : List Binder) (given : A) (dims : List (List ℕ)) (ls ks : List Leaf) → P s dims ls → Q s given dims ks → R s given dims (ls ++ ks))
      → Told (λ s. E s ++ F s) a d r R
  told_then b d r P Q R g h next s here =
      let first = g s here in
      Tells-map s s (F s) (E s ++ F s) b d a d r (Q s) (R s) (h s first.scope)
      (λ given k. both s s (E s) (F s) a b d (P s) (Q s given) (R s given) first k (next s given))
      (λ fault k. later s (E s) (F s) a b (P s) fault first k)

-- the exit of a call that was refused
pub told_exit : {A : Type 0} (E : Events) (a d : Walk) (r : Result A ScopeFault) (P : List Binder → A → Claim) (fault : ScopeFault)
    → IsErrAnd r (λ own. own ≡ fault) → Refused E a fault → Told E a d r P
told_exit E a d r P fault exit g s h =
    let own = err_from_is_err_and r exit in
    subst (λ one. Tells s (E s) a d one (P s)) (sym (own.1 ∙ ap Err own.2)) (g s h)

pub told_last : {A : Type 0} (E : Events) (a b d : Walk) (r : Result A ScopeFault) (own : A) (Q : List Binder → Walk → A → Claim)
    → MatchResult r (λ given. (given ≡ own) × (d ≡ b)) (λ fault. fault ≡ Memory)
    → Given E a b (λ s. Q s b own)
    → Told E a d r (λ s. Q s d)
told_last E a b d r own Q is g s h = Tells-last s (E s) a b d r own (Q s) is (g s h)

pub told_map : {A : Type 0} (E : Events) (a b : Walk) (r : Result A ScopeFault) (P Q : List Binder → A → Claim) → Told E a b r P
    → ((s : List Binder) (given : A) (dims : List (List ℕ)) (ls : List Leaf) → P s given dims ls → Q s given dims ls) → Told E a b r Q
told_map E a b r P Q g next s h =
    Tells-map s s (E s) (E s) a b a b r (P s) (Q s) (g s h) (λ given k. Gives-map s (E s) a b (P s given) (Q s given) k (next s given)) (λ fault k. k)

-- two claims, of the leaves of two parts
abbrev pub Two : (List Binder → Claim) → (List Binder → Claim) → List Binder → Claim
Two P Q s dims js = (ls : List Leaf) × (ks : List Leaf) × (js ≡ ls ++ ks) × P s dims ls × Q s dims ks

pub given_two : (E F : Events) (a b c : Walk) (P Q : List Binder → Claim) → Given E a b P → Given F b c Q → Given (λ s. E s ++ F s) a c (Two P Q)
given_two E F a b c P Q g h = given_then E F a b c P Q (Two P Q) g h (λ s dims ls ks p q. (ls, ks, refl, p, q))

-- and a number at the end
pub given_last : (E : Events) (a b : Walk) (P Q : List Binder → Claim) → Given E a b P
    → ((s : List Binder) (dims : List (List ℕ)) (ls : List Leaf) → P s dims ls → Q s dims ls) → Given E a (numbered b) Q
given_last E a b P Q g next s here = Gives-numbered s (E s) a b (Q s) (Gives-map s (E s) a b (P s) (Q s) (g s here) (next s))

-- a leaf at the end
pub given_noted : (E : Events) (a b last : Walk) (one : Leaf) (P Q : List Binder → Claim) → last ≡ noted b one → Given E a b P
    → ((s : List Binder) (dims : List (List ℕ)) (ls : List Leaf) → P s dims ls → Q s dims (ls ++ one ∷ [])) → Given E a last Q
given_noted E a b last one P Q is g next s here =
    subst (λ w. Gives s (E s) a w (Q s)) (sym is) (Gives-noted s (E s) a b one (P s) (Q s) (g s here) (next s))

-- what is made of what was given
pub told_made : {A : Type 0} (E : Events) (a d : Walk) (r : Result A ScopeFault) (own : A) (Q : List Binder → A → Claim)
    → MatchResult r (λ given. given ≡ own) (λ fault. fault ≡ Memory)
    → Given E a d (λ s. Q s own) → Told E a d r Q
told_made E a d (Ok given) own Q is g s here = subst (λ c. Gives s (E s) a d (Q s c)) (sym is) (g s here)
told_made E a d (Err fault) own Q is g s here = IsFault-Memory (first_fault a.dims (E s)) fault is

-- one binder more, for as long as an expression is walked over
pub given_under : (E : Events) (a w : Walk) (binder : Binder) (pushed popped : List Binder) (P : List Binder → Claim)
    → pushed ≡ binder ∷ a.scope
    → ((newest : Binder) (others : List Binder) → w.scope ≡ newest ∷ others → popped ≡ others)
    → Given E (record a { scope = pushed }) w P
    → Given (λ s. E (binder ∷ s)) a (record w { scope = popped }) (λ s. P (binder ∷ s))
given_under E a w binder pushed popped P push pop g s here =
    let inner = g (binder ∷ s) (push ∙ ap (λ others. binder ∷ others) here) in
    Gives-scope s (binder ∷ s) pushed popped (E (binder ∷ s)) a w (P (binder ∷ s)) (pop binder s inner.scope) inner

module _ (constants : List Constant) where
  abbrev pub of : Expr → Events
  of e s = events_of constants s e

  -- an expression by its form
  pub Answers-form : (e : Expr) (f : ExprForm) (a b : Walk) (r : Result Core ScopeFault) → e.form ≡ f → Answers constants (expr e.span f) a b r → Answers constants e a b r
  Answers-form e f a b r is = subst (λ g. Answers constants (expr e.span g) a b r) (sym is)

  -- a leaf that is the whole expression
  pub leaf_told : (at : Span) (f : ExprForm) (a d : Walk) (r : Result Core ScopeFault) (own : Core) (one : Leaf)
      → ((s : List Binder) → a.scope ≡ s → events_of constants s (expr at f) ≡ [])
      → ((s : List Binder) (dims : List (List ℕ)) → a.scope ≡ s → IsCore constants dims s a.next (expr at f) own (one ∷ []) (suc a.next))
      → MatchResult r (λ c. (c ≡ own) × (d ≡ noted (numbered a) one)) (λ fault. fault ≡ Memory)
      → Answers constants (expr at f) a d r
  leaf_told at f a d r own one none rule is s here =
      subst (λ es. Tells s es a d r (HasCore constants s (expr at f) a d)) (sym (none s here))
      (Tells-last s [] a (noted (numbered a) one) d r own (λ w. HasCore constants s (expr at f) a w) is
      (Gives-leaf s a one (HasCore constants s (expr at f) a (noted (numbered a) one) own) here (λ dims. rule s dims here)))

  pub hole_told : (at : Span) (a d : Walk) (r : Result Core ScopeFault) → MatchResult r (λ c. (c ≡ core a.next at Hole) × (d ≡ numbered a)) (λ fault. fault ≡ Memory)
      → Answers constants (expr at form.Hole) a d r
  hole_told at a d r is s here =
      Tells-last s [] a (numbered a) d r (core a.next at Hole) (λ w. HasCore constants s (expr at form.Hole) a w) is
      (Gives-none s a (HasCore constants s (expr at form.Hole) a (numbered a) (core a.next at Hole)) here (λ dims. cores.hole s a.next at))

  pub fun_told : (at : Span) (name : List ℕ) (name_at : Span) (e : Expr) (a b d : Walk) (c : Core) (r : Result Core ScopeFault)
      → Given (λ s. of e (parameter name ∷ s)) a b (λ s. HasCore constants (parameter name ∷ s) e a b c)
      → MatchResult r (λ given. (given ≡ function b.next at c) × (d ≡ numbered b)) (λ fault. fault ≡ Memory)
      → Answers constants (expr at (surface.fun_form name name_at e)) a d r
  fun_told at name name_at e a b d c r g is =
      told_last (λ s. of e (parameter name ∷ s)) a (numbered b) d r (function b.next at c) (λ s w. HasCore constants s (expr at (surface.fun_form name name_at e)) a w) is
      (given_last (λ s. of e (parameter name ∷ s)) a b (λ s. HasCore constants (parameter name ∷ s) e a b c)
      (λ s. HasCore constants s (expr at (surface.fun_form name name_at e)) a (numbered b) (function b.next at c)) g
      (λ s dims ls p. cores.fun s a.next b.next at name name_at e c ls p))

  pub let_told : (at : Span) (recursive : Bool) (name : List ℕ) (name_at : Span) (e f : Expr) (a b start d : Walk) (c h : Core) (r : Result Core ScopeFault)
      → start ≡ numbered b
      → Given (λ s. of e (bound_under recursive name s)) a b (λ s. HasCore constants (bound_under recursive name s) e a b c)
      → Given (λ s. of f (defined name ∷ s)) start d (λ s. HasCore constants (defined name ∷ s) f start d h)
      → MatchResult r (λ given. given ≡ core b.next at (bound_form recursive name name_at c h)) (λ fault. fault ≡ Memory)
      → Answers constants (expr at (surface.let_form recursive name name_at e f)) a d r
  let_told at recursive name name_at e f a b start d c h r taken g k is =
      told_made (λ s. of e (bound_under recursive name s) ++ of f (defined name ∷ s)) a d r (core b.next at (bound_form recursive name name_at c h))
      (λ s. HasCore constants s (expr at (surface.let_form recursive name name_at e f)) a d) is
      (given_then (λ s. of e (bound_under recursive name s)) (λ s. of f (defined name ∷ s)) a b d
      (λ s. HasCore constants (bound_under recursive name s) e a b c) (λ s. HasCore constants (defined name ∷ s) f (numbered b) d h)
      (λ s. HasCore constants s (expr at (surface.let_form recursive name name_at e f)) a d (core b.next at (bound_form recursive name name_at c h))) g
      (given_numbered b start taken (λ s. of f (defined name ∷ s)) d (λ s w. HasCore constants (defined name ∷ s) f w d h) k)
      (λ s dims ls ks p q. cores.let_in s a.next b.next d.next at recursive name name_at e f c h ls ks p q))

  -- a function and what it is applied to
  pub argument_told : (at : Span) (o : Core) (e : Expr) (a b d : Walk) (c : Core) (r : Result Core ScopeFault)
      → Given (of e) a b (λ s. HasCore constants s e a b c)
      → MatchResult r (λ given. (given ≡ applied b.next at o c) × (d ≡ numbered b)) (λ fault. fault ≡ Memory)
      → AnswersApplied constants at o e a d r
  argument_told at o e a b d c r g is =
      told_last (of e) a (numbered b) d r (applied b.next at o c) (λ s w. HasApplied constants s at o e a w) is
      (given_last (of e) a b (λ s. HasCore constants s e a b c) (λ s. HasApplied constants s at o e a (numbered b) (applied b.next at o c)) g
      (λ s dims ls p. applies a.next b.next o e c ls p))

  pub apply_told : (at : Span) (e f : Expr) (a b d : Walk) (c : Core) (r : Result Core ScopeFault)
      → Given (of e) a b (λ s. HasCore constants s e a b c)
      → AnswersApplied constants at c f b d r
      → Answers constants (expr at (surface.apply_form e f)) a d r
  apply_told at e f a b d c r g h =
      told_then (of e) (of f) a b d r (λ s. HasCore constants s e a b c) (λ s. HasApplied constants s at c f b d)
      (λ s. HasCore constants s (expr at (surface.apply_form e f)) a d) g h
      (λ s given dims ls ks p q. rule s dims a.next b.next d.next given ls ks p q)
    where
      rule : (s : List Binder) (dims : List (List ℕ)) (n i k : ℕ) (given : Core) (ls ks : List Leaf)
          → IsCore constants dims s n e c ls i → IsApplied constants dims s at i c f given ks k
          → IsCore constants dims s n (expr at (surface.apply_form e f)) given (ls ++ ks) k
      rule s dims n i k given ls ks p (applies own m g one h ms q) = cores.apply s n own m at e f c h ls ms p q

  -- a constant, applied to expressions
  module _ (at : Span) (a start b : Walk) (o own : Core) (e : Expr) (c : Core) (is : o ≡ own) (taken : start ≡ numbered a)
      (g : Given (of e) start b (λ s. HasApplied constants s at o e start b c)) where
    pub first_given : Given (of e) a b (λ s. HasApplied constants s at own e (numbered a) b c)
    first_given =
        given_numbered a start taken (of e) b (λ s w. HasApplied constants s at own e w b c)
        (subst (λ one. Given (of e) start b (λ s. HasApplied constants s at one e start b c)) is g)

  pub if_told : (at : Span) (e f g : Expr) (a start b w d : Walk) (o c h : Core) (r : Result Core ScopeFault)
      → o ≡ constant a.next at cond_id → start ≡ numbered a
      → Given (of e) start b (λ s. HasApplied constants s at o e start b c)
      → Given (of f) b w (λ s. HasApplied constants s at c f b w h)
      → AnswersApplied constants at h g w d r
      → Answers constants (expr at (surface.if_form e f g)) a d r
  if_told at e f g a start b w d o c h r is taken one two three =
      let P : List Binder → Claim = λ s. HasApplied constants s at (constant a.next at cond_id) e (numbered a) b c in
      let Q : List Binder → Claim = λ s. HasApplied constants s at c f b w h in
      told_then (λ s. of e s ++ of f s) (of g) a w d r (Two P Q) (λ s. HasApplied constants s at h g w d) (λ s. HasCore constants s (expr at (surface.if_form e f g)) a d)
      (given_two (of e) (of f) a b w P Q (first_given at a start b o (constant a.next at cond_id) e c is taken one) two) three
      (λ s given dims js ks (ls, ms, same, p, q) k. subst (λ l. IsCore constants dims s a.next (expr at (surface.if_form e f g)) given (l ++ ks) d.next) (sym same)
      (rule s dims a.next b.next w.next d.next c h given ls ms ks p q k))
    where
      rule : (s : List Binder) (dims : List (List ℕ)) (n i j k : ℕ) (x y z : Core) (ls ks js : List Leaf)
          → IsApplied constants dims s at (suc n) (constant n at cond_id) e x ls i → IsApplied constants dims s at i x f y ks j → IsApplied constants dims s at j y g z js k
          → IsCore constants dims s n (expr at (surface.if_form e f g)) z (ls ++ ks ++ js) k
      rule s dims n i j k x y z ls ks js (applies n1 m1 f1 e1 c1 l1 p) (applies n2 m2 f2 e2 c2 l2 q) (applies n3 m3 f3 e3 c3 l3 t) =
          cores.if_else s n m1 m2 m3 at e f g c1 c2 c3 l1 l2 l3 p q t

  pub pair_told : (at : Span) (e f : Expr) (a start b d : Walk) (o c : Core) (r : Result Core ScopeFault)
      → o ≡ constant a.next at pair_id → start ≡ numbered a
      → Given (of e) start b (λ s. HasApplied constants s at o e start b c)
      → AnswersApplied constants at c f b d r
      → Answers constants (expr at (surface.pair_form e f)) a d r
  pair_told at e f a start b d o c r is taken one two =
      told_then (of e) (of f) a b d r (λ s. HasApplied constants s at (constant a.next at pair_id) e (numbered a) b c) (λ s. HasApplied constants s at c f b d)
      (λ s. HasCore constants s (expr at (surface.pair_form e f)) a d)
      (first_given at a start b o (constant a.next at pair_id) e c is taken one) two
      (λ s given dims ls ks p q. rule s dims a.next b.next d.next c given ls ks p q)
    where
      rule : (s : List Binder) (dims : List (List ℕ)) (n i k : ℕ) (x y : Core) (ls ks : List Leaf)
          → IsApplied constants dims s at (suc n) (constant n at pair_id) e x ls i → IsApplied constants dims s at i x f y ks k
          → IsCore constants dims s n (expr at (surface.pair_form e f)) y (ls ++ ks) k
      rule s dims n i k x y ls ks (applies n1 m1 f1 e1 c1 l1 p) (applies n2 m2 f2 e2 c2 l2 q) = cores.pair s n m1 m2 at e f c1 c2 l1 l2 p q

  pub operation_told : (at : Span) (op : Op) (op_at : Span) (e f : Expr) (a start b w d : Walk) (o c : Core) (r : Result Core ScopeFault)
      → o ≡ constant a.next op_at (op_id op) → start ≡ numbered a
      → Given (of e) start b (λ s. HasApplied constants s at o e start b c)
      → w ≡ noted b (leaf op_at class.Constant o.node)
      → AnswersApplied constants at c f w d r
      → Answers constants (expr at (surface.op_form op op_at e f)) a d r
  operation_told at op op_at e f a start b w d o c r is taken one mark two =
      let P : List Binder → Claim = λ s. HasApplied constants s at (constant a.next op_at (op_id op)) e (numbered a) b c in
      let Q : List Binder → Claim = λ s dims js. (ls : List Leaf) × (js ≡ ls ++ leaf op_at class.Constant a.next ∷ []) × HasApplied constants s at (constant a.next op_at (op_id op)) e (numbered a) w c dims ls in
      told_then (of e) (of f) a w d r Q (λ s. HasApplied constants s at c f w d) (λ s. HasCore constants s (expr at (surface.op_form op op_at e f)) a d)
      (given_noted (of e) a b w (leaf op_at class.Constant a.next) P Q (mark ∙ ap (λ one. noted b (leaf op_at class.Constant one.node)) is)
      (first_given at a start b o (constant a.next op_at (op_id op)) e c is taken one)
      (λ s dims ls p. (ls, refl, subst (λ last. IsApplied constants dims s at (suc a.next) (constant a.next op_at (op_id op)) e c ls last) (ap (λ u. u.next) (sym mark)) p))) two
      (λ s given dims js ks (ls, same, p) q. subst (λ l. IsCore constants dims s a.next (expr at (surface.op_form op op_at e f)) given (l ++ ks) d.next) (sym same)
      (rule s dims a.next w.next d.next c given ls ks p q))
    where
      rule : (s : List Binder) (dims : List (List ℕ)) (n i k : ℕ) (x y : Core) (ls ks : List Leaf)
          → IsApplied constants dims s at (suc n) (constant n op_at (op_id op)) e x ls i → IsApplied constants dims s at i x f y ks k
          → IsCore constants dims s n (expr at (surface.op_form op op_at e f)) y (ls ++ leaf op_at class.Constant n ∷ [] ++ ks) k
      rule s dims n i k x y ls ks (applies n1 m1 f1 e1 c1 l1 p) (applies n2 m2 f2 e2 c2 l2 q) = cores.operation s n m1 m2 at op op_at e f c1 c2 l1 l2 p q

  pub match_told : (at : Span) (e f g : Expr) (first : List ℕ) (first_at : Span) (rest : List ℕ) (rest_at : Span) (a start b w v d : Walk) (o c h l : Core) (r : Result Core ScopeFault)
      → o ≡ constant a.next at split_id → start ≡ numbered a
      → Given (of e) start b (λ s. HasApplied constants s at o e start b c)
      → Given (of f) b w (λ s. HasApplied constants s at c f b w h)
      → Given (λ s. of g (parameter rest ∷ parameter first ∷ s)) w v (λ s. HasArm constants s first rest (up_to first_at at) g w v l)
      → MatchResult r (λ given. (given ≡ applied v.next at h l) × (d ≡ numbered v)) (λ fault. fault ≡ Memory)
      → Answers constants (expr at (surface.match_form e f first first_at rest rest_at g)) a d r
  match_told at e f g first first_at rest rest_at a start b w v d o c h l r is taken one two three last =
      let E : Events = λ s. of e s ++ of f s ++ of g (parameter rest ∷ parameter first ∷ s) in
      let whole : Expr = expr at (surface.match_form e f first first_at rest rest_at g) in
      let P : List Binder → Claim = λ s. HasApplied constants s at (constant a.next at split_id) e (numbered a) b c in
      let Q : List Binder → Claim = λ s. HasApplied constants s at c f b w h in
      let R : List Binder → Claim = λ s. HasArm constants s first rest (up_to first_at at) g w v l in
      told_last E a (numbered v) d r (applied v.next at h l) (λ s u. HasCore constants s whole a u) last
      (given_last E a v (Two (Two P Q) R) (λ s. HasCore constants s whole a (numbered v) (applied v.next at h l))
      (given_two (λ s. of e s ++ of f s) (λ s. of g (parameter rest ∷ parameter first ∷ s)) a w v (Two P Q) R
      (given_two (of e) (of f) a b w P Q (first_given at a start b o (constant a.next at split_id) e c is taken one) two) three)
      (λ s dims all (js, ks, same, (ls, ms, equal, p, q), k).
      subst (λ n. IsCore constants dims s a.next whole (applied v.next at h l) n (suc v.next)) (sym (same ∙ ap (λ n. n ++ ks) equal))
      (rule s dims a.next b.next w.next v.next c h l ls ms ks p q k)))
    where
      rule : (s : List Binder) (dims : List (List ℕ)) (n i j k : ℕ) (x y z : Core) (ls ks js : List Leaf)
          → IsApplied constants dims s at (suc n) (constant n at split_id) e x ls i → IsApplied constants dims s at i x f y ks j
          → IsArm constants dims s first rest (up_to first_at at) j g z js k
          → IsCore constants dims s n (expr at (surface.match_form e f first first_at rest rest_at g)) (applied k at y z) (ls ++ ks ++ js) (suc k)
      rule s dims n i j k x y z ls ks js (applies n1 m1 f1 e1 c1 l1 p) (applies n2 m2 f2 e2 c2 l2 q) (arm n3 m3 e3 c3 l3 t) =
          cores.match_list s n m1 m2 m3 at first first_at rest rest_at e f g c1 c2 c3 l1 l2 l3 p q t

  pub choice_told : (at : Span) (name : List ℕ) (dim : ℕ) (name_at : Span) (e f : Expr) (a start b w d : Walk) (c h : Core) (r : Result Core ScopeFault)
      → slice_get start.dims dim ≡ Some name → start ≡ record a { dims = with_dim a.dims name } → refused a.dims (Dimension name name_at) ≡ None
      → Given (of e) start b (λ s. HasCore constants s e start b c)
      → Given (of f) b w (λ s. HasCore constants s f b w h)
      → MatchResult r (λ given. (given ≡ core w.next at (choice_form dim c h)) × (d ≡ numbered w)) (λ fault. fault ≡ Memory)
      → Answers constants (expr at (surface.choice_form name name_at e f)) a d r
  choice_told at name dim name_at e f a start b w d c h r numbered_dim met free one two last =
      let own : Core = core w.next at (choice_form dim c h) in
      let whole : Expr = expr at (surface.choice_form name name_at e f) in
      let P : List Binder → Claim = λ s. HasCore constants s e start b c in
      let Q : List Binder → Claim = λ s. HasCore constants s f b w h in
      told_last (λ s. Dimension name name_at ∷ of e s ++ of f s) a (numbered w) d r own (λ s u. HasCore constants s whole a u) last
      (λ s here.
      let both_given = given_two (of e) (of f) start b w P Q one two s (ap (λ u. u.scope) met ∙ here) in
      dimension-Gives s name name_at (of e s ++ of f s) a (numbered w) (Two P Q s) (HasCore constants s whole a (numbered w) own) free
      (Gives-numbered s (of e s ++ of f s) (record a { dims = with_dim a.dims name }) w (Two P Q s)
      (subst (λ u. Gives s (of e s ++ of f s) u w (Two P Q s)) met both_given))
      (λ dims js more (ls, ks, same, p, q).
      subst (λ l. IsCore constants dims s a.next whole own l (suc w.next)) (sym same)
      (cores.choice s a.next b.next w.next at name dim name_at e f c h ls ks
      (slice_get-Extends (with_dim a.dims name) dims dim name more (subst (λ u. slice_get u.dims dim ≡ Some name) met numbered_dim))
      (subst (λ u. IsCore constants dims s u.next e c ls b.next) met p) q)))

  -- lists that are written out
  abbrev pub of_items : Exprs → Events
  of_items items s = item_events constants s items

  pub list_told : (at : Span) (items : Exprs) (a d : Walk) (r : Result Core ScopeFault)
      → Told (of_items items) a d r (λ s. HasItems constants s at at items a d)
      → Answers constants (expr at (form.List items)) a d r
  list_told at items a d r g =
      told_map (of_items items) a d r (λ s. HasItems constants s at at items a d) (λ s. HasCore constants s (expr at (form.List items)) a d) g
      (λ s given dims ls p. cores.list s a.next d.next at items given ls p)

  pub none_told : (whole here : Span) (a d : Walk) (r : Result Core ScopeFault)
      → MatchResult r (λ c. (c ≡ constant a.next here nil_id) × (d ≡ numbered a)) (λ fault. fault ≡ Memory)
      → Told (of_items Nil) a d r (λ s. HasItems constants s whole here Nil a d)
  none_told whole here a d r is =
      told_last (of_items Nil) a (numbered a) d r (constant a.next here nil_id) (λ s w. HasItems constants s whole here Nil a w) is
      (λ s inside. Gives-none s a (HasItems constants s whole here Nil a (numbered a) (constant a.next here nil_id)) inside (λ dims. cores.none s whole here a.next))

  pub more_told : (whole here left : Span) (e : Expr) (es : Exprs) (a start b w d : Walk) (o c h : Core) (r : Result Core ScopeFault)
      → left ≡ left_span whole es
      → o ≡ constant a.next whole cons_id → start ≡ numbered a
      → Given (of e) start b (λ s. HasApplied constants s here o e start b c)
      → Given (of_items es) b w (λ s. HasItems constants s whole left es b w h)
      → MatchResult r (λ given. (given ≡ applied w.next here c h) × (d ≡ numbered w)) (λ fault. fault ≡ Memory)
      → Told (of_items (exprs e es)) a d r (λ s. HasItems constants s whole here (exprs e es) a d)
  more_told whole here left e es a start b w d o c h r span is taken one two last =
      let P : List Binder → Claim = λ s. HasApplied constants s here (constant a.next whole cons_id) e (numbered a) b c in
      let Q : List Binder → Claim = λ s. HasItems constants s whole left es b w h in
      told_last (of_items (exprs e es)) a (numbered w) d r (applied w.next here c h) (λ s u. HasItems constants s whole here (exprs e es) a u) last
      (given_last (of_items (exprs e es)) a w (Two P Q) (λ s. HasItems constants s whole here (exprs e es) a (numbered w) (applied w.next here c h))
      (given_two (of e) (of_items es) a b w P Q (first_given here a start b o (constant a.next whole cons_id) e c is taken one) two)
      (λ s dims js (ls, ks, same, p, q).
      subst (λ l. AreItems constants dims s whole here a.next (exprs e es) (applied w.next here c h) l (suc w.next)) (sym same)
      (rule s dims a.next b.next w.next c h ls ks p (subst (λ n. AreItems constants dims s whole n b.next es h ks w.next) span q))))
    where
      rule : (s : List Binder) (dims : List (List ℕ)) (n i k : ℕ) (x y : Core) (ls ks : List Leaf)
          → IsApplied constants dims s here (suc n) (constant n whole cons_id) e x ls i → AreItems constants dims s whole (left_span whole es) i es y ks k
          → AreItems constants dims s whole here n (exprs e es) (applied k here x y) (ls ++ ks) (suc k)
      rule s dims n i k x y ls ks (applies n1 m1 f1 e1 c1 l1 p) q = cores.more s whole here n m1 k e es c1 y l1 ks p q

  -- the arm of a `match`, as a function of the first element and of the rest
  pub arm_told : (first rest : List ℕ) (here : Span) (e : Expr) (a : Walk) (pushed popped : List Binder) (b v d : Walk) (c inner : Core) (r : Result Core ScopeFault)
      → pushed ≡ parameter first ∷ a.scope
      → ((newest : Binder) (others : List Binder) → b.scope ≡ newest ∷ others → popped ≡ others)
      → Given (λ s. of e (parameter rest ∷ s)) (record a { scope = pushed }) b (λ s. HasCore constants (parameter rest ∷ s) e (record a { scope = pushed }) b c)
      → inner ≡ function b.next here c → v ≡ numbered (record b { scope = popped })
      → MatchResult r (λ given. (given ≡ function v.next here inner) × (d ≡ numbered v)) (λ fault. fault ≡ Memory)
      → AnswersArm constants first rest here e a d r
  arm_told first rest here e a pushed popped b v d c inner r push pop g is taken last =
      let E : Events = λ s. of e (parameter rest ∷ parameter first ∷ s) in
      let P : List Binder → Claim = λ s. HasCore constants (parameter rest ∷ parameter first ∷ s) e a b c in
      told_last E a (numbered v) d r (function v.next here inner) (λ s w. HasArm constants s first rest here e a w) last
      (given_last E a v P (λ s. HasArm constants s first rest here e a (numbered v) (function v.next here inner))
      (numbered_given E a (record b { scope = popped }) v P taken (given_under (λ s. of e (parameter rest ∷ s)) a b (parameter first) pushed popped (λ s. HasCore constants (parameter rest ∷ s) e a b c) push pop g))
      (λ s dims ls p.
      subst (λ w. IsArm constants dims s first rest here a.next e (function w.next here inner) ls (suc w.next)) (sym taken)
      (subst (λ f. IsArm constants dims s first rest here a.next e (function (suc b.next) here f) ls (suc (suc b.next))) (sym is) (arm a.next b.next e c ls p))))

  -- what is refused within a form
  module _ (at : Span) (a d : Walk) (r : Result Core ScopeFault) (fault : ScopeFault) (exit : IsErrAnd r (λ own. own ≡ fault)) where
    abbrev fails : (E : Events) (f : ExprForm) → Refused E a fault → Told E a d r (λ s. HasCore constants s (expr at f) a d)
    fails E f = told_exit E a d r (λ s. HasCore constants s (expr at f) a d) fault exit

    pub fun_fails : (name : List ℕ) (name_at : Span) (e : Expr)
        → Refused (λ s. of e (parameter name ∷ s)) a fault → Answers constants (expr at (surface.fun_form name name_at e)) a d r
    fun_fails name name_at e h = fails (λ s. of e (parameter name ∷ s)) (surface.fun_form name name_at e) h

    pub bound_fails : (recursive : Bool) (name : List ℕ) (name_at : Span) (e f : Expr)
        → Refused (λ s. of e (bound_under recursive name s)) a fault → Answers constants (expr at (surface.let_form recursive name name_at e f)) a d r
    bound_fails recursive name name_at e f h =
        fails (λ s. of e (bound_under recursive name s) ++ of f (defined name ∷ s)) (surface.let_form recursive name name_at e f)
        (refused_first (λ s. of e (bound_under recursive name s)) (λ s. of f (defined name ∷ s)) a fault h)

    pub body_fails : (recursive : Bool) (name : List ℕ) (name_at : Span) (e f : Expr) (b start : Walk) (c : Core)
        → start ≡ numbered b
        → Given (λ s. of e (bound_under recursive name s)) a b (λ s. HasCore constants (bound_under recursive name s) e a b c)
        → Refused (λ s. of f (defined name ∷ s)) start fault → Answers constants (expr at (surface.let_form recursive name name_at e f)) a d r
    body_fails recursive name name_at e f b start c taken g h =
        fails (λ s. of e (bound_under recursive name s) ++ of f (defined name ∷ s)) (surface.let_form recursive name name_at e f)
        (refused_then (λ s. of e (bound_under recursive name s)) (λ s. of f (defined name ∷ s)) a b (λ s. HasCore constants (bound_under recursive name s) e a b c) fault g
        (refused_numbered b start taken (λ s. of f (defined name ∷ s)) fault h))

    pub function_fails : (e f : Expr) → Refused (of e) a fault → Answers constants (expr at (surface.apply_form e f)) a d r
    function_fails e f h = fails (λ s. of e s ++ of f s) (surface.apply_form e f) (refused_first (of e) (of f) a fault h)

    pub dim_fails : (name : List ℕ) (name_at : Span) (e f : Expr)
        → IsFault (first_fault a.dims (Dimension name name_at ∷ [])) fault → Answers constants (expr at (surface.choice_form name name_at e f)) a d r
    dim_fails name name_at e f h =
        fails (λ s. Dimension name name_at ∷ of e s ++ of f s) (surface.choice_form name name_at e f)
        (refused_first (λ s. Dimension name name_at ∷ []) (λ s. of e s ++ of f s) a fault (λ s here. h))

    -- a dimension that is known, and what is refused after it
    module _ (name : List ℕ) (name_at : Span) (start : Walk) (met : start ≡ record a { dims = with_dim a.dims name }) (free : refused a.dims (Dimension name name_at) ≡ None) (e f : Expr) where
      after_dim : Refused (λ s. of e s ++ of f s) start fault → Answers constants (expr at (surface.choice_form name name_at e f)) a d r
      after_dim h =
          fails (λ s. Dimension name name_at ∷ of e s ++ of f s) (surface.choice_form name name_at e f)
          (λ s here. subst (λ first. IsFault first fault)
          (ap (λ u. first_fault u.dims (of e s ++ of f s)) met ∙ sym (ap (λ one. first_of one (first_fault (with_dim a.dims name) (of e s ++ of f s))) free))
          (h s (ap (λ u. u.scope) met ∙ here)))

      pub left_fails : Refused (of e) start fault → Answers constants (expr at (surface.choice_form name name_at e f)) a d r
      left_fails h = after_dim (refused_first (of e) (of f) start fault h)

      pub right_fails : (b : Walk) (c : Core) → Given (of e) start b (λ s. HasCore constants s e start b c) → Refused (of f) b fault
          → Answers constants (expr at (surface.choice_form name name_at e f)) a d r
      right_fails b c g h = after_dim (refused_then (of e) (of f) start b (λ s. HasCore constants s e start b c) fault g h)

    -- behind a constant
    module _ (start : Walk) (taken : start ≡ numbered a) where
      pub pair_fails : (e f : Expr) → Refused (of e) start fault → Answers constants (expr at (surface.pair_form e f)) a d r
      pair_fails e f h = fails (λ s. of e s ++ of f s) (surface.pair_form e f) (refused_first (of e) (of f) a fault (refused_numbered a start taken (of e) fault h))

      pub operation_fails : (op : Op) (op_at : Span) (e f : Expr) → Refused (of e) start fault → Answers constants (expr at (surface.op_form op op_at e f)) a d r
      operation_fails op op_at e f h = fails (λ s. of e s ++ of f s) (surface.op_form op op_at e f) (refused_first (of e) (of f) a fault (refused_numbered a start taken (of e) fault h))

      module _ (e f : Expr) (G : Events) (g : ExprForm) where
        -- in the first of three parts
        pub first_fails : Refused (of e) start fault → Told (λ s. of e s ++ of f s ++ G s) a d r (λ s. HasCore constants s (expr at g) a d)
        first_fails h =
            fails (λ s. of e s ++ of f s ++ G s) g
            (refused_first (λ s. of e s ++ of f s) G a fault (refused_first (of e) (of f) a fault (refused_numbered a start taken (of e) fault h)))

        -- in the second
        pub second_fails : (b : Walk) (P : List Binder → Walk → Claim) → Given (of e) start b (λ s. P s start) → Refused (of f) b fault
            → Told (λ s. of e s ++ of f s ++ G s) a d r (λ s. HasCore constants s (expr at g) a d)
        second_fails b P one h =
            fails (λ s. of e s ++ of f s ++ G s) g
            (refused_first (λ s. of e s ++ of f s) G a fault
            (refused_then (of e) (of f) a b (λ s. P s (numbered a)) fault (given_numbered a start taken (of e) b P one) h))

        -- in the third
        pub third_fails : (b w : Walk) (P : List Binder → Walk → Claim) (Q : List Binder → Claim) → Given (of e) start b (λ s. P s start) → Given (of f) b w Q → Refused G w fault
            → Told (λ s. of e s ++ of f s ++ G s) a d r (λ s. HasCore constants s (expr at g) a d)
        third_fails b w P Q one two h =
            fails (λ s. of e s ++ of f s ++ G s) g
            (refused_then (λ s. of e s ++ of f s) G a w (Two (λ s. P s (numbered a)) Q) fault
            (given_two (of e) (of f) a b w (λ s. P s (numbered a)) Q (given_numbered a start taken (of e) b P one) two) h)

  -- and within a list
  module _ (whole here : Span) (e : Expr) (es : Exprs) (a start d : Walk) (r : Result Core ScopeFault) (fault : ScopeFault) (exit : IsErrAnd r (λ own. own ≡ fault)) (taken : start ≡ numbered a) where
    pub item_fails : Refused (of e) start fault → Told (of_items (exprs e es)) a d r (λ s. HasItems constants s whole here (exprs e es) a d)
    item_fails h =
        told_exit (of_items (exprs e es)) a d r (λ s. HasItems constants s whole here (exprs e es) a d) fault exit
        (refused_first (of e) (of_items es) a fault (refused_numbered a start taken (of e) fault h))

    pub rest_fails : (b : Walk) (o c : Core) → Given (of e) start b (λ s. HasApplied constants s here o e start b c) → Refused (of_items es) b fault
        → Told (of_items (exprs e es)) a d r (λ s. HasItems constants s whole here (exprs e es) a d)
    rest_fails b o c one h =
        told_exit (of_items (exprs e es)) a d r (λ s. HasItems constants s whole here (exprs e es) a d) fault exit
        (refused_then (of e) (of_items es) a b (λ s. HasApplied constants s here o e (numbered a) b c) fault
        (given_numbered a start taken (of e) b (λ s w. HasApplied constants s here o e w b c) one) h)

  -- a list by its first item
  pub items-form : (whole here : Span) (a d : Walk) (r : Result Core ScopeFault) (items form : Exprs) → items ≡ form
      → Told (of_items form) a d r (λ s. HasItems constants s whole here form a d) → Told (of_items items) a d r (λ s. HasItems constants s whole here items a d)
  items-form whole here a d r items form is = subst (λ all. Told (of_items all) a d r (λ s. HasItems constants s whole here all a d)) (sym is)
