use Rattle.std.proofs.Common.{◌≡◌, ℕ, List, [], ◌∷◌, ◌++◌, Option, None, Result, MatchResult, Ok, Err, refl, ap, sym, subst, ◌∙◌, append_assoc}
use Rattle.std.proofs.lemmas.List.{append-nil}
use Rattle.vt_lex.specs.declared.span.Span.{Span}
use Rattle.vt_syntax.specs.declared.leaf.Leaf.{Leaf}
use Rattle.vt_scope.specs.declared.fault.ScopeFault.{ScopeFault}
use Rattle.vt_scope.specs.declared.fault.ScopeFault.TheVariants.{Memory}
use Rattle.vt_scope.specs.declared.scope.Binder.{Binder}
use Rattle.vt_scope.specs.declared.walk.Walk.{Walk}
use Rattle.vt_scope.specs.Faults.{Event, Dimension, with_dim, dims_after, refused, first_of, first_fault, IsFault}
use Rattle.vt_scope.specs.Walking.{numbered, noted, Extends, Claim, Gives, Tells}
use Rattle.vt_scope.proofs.EventLists.{dims_after-append, first_fault-later, Extends-then, Extends-dims_after}

-- Steps of a walk, one after another.

-- by more dimensions, what is claimed before some steps
pub before : (s : List Binder) (es : List Event) (a b : Walk) (P : Claim) → Gives s es a b P → (dims : List (List ℕ)) → Extends b.dims dims → Extends a.dims dims
before s es a b P g dims more = Extends-then a.dims b.dims dims (subst (Extends a.dims) (sym g.dims) (Extends-dims_after a.dims es)) more

pub Gives-map : (s : List Binder) (es : List Event) (a b : Walk) (P Q : Claim)
    → Gives s es a b P → ((dims : List (List ℕ)) (ls : List Leaf) → P dims ls → Q dims ls) → Gives s es a b Q
Gives-map s es a b P Q g next = record {
  scope = g.scope;
  dims = g.dims;
  no_fault = g.no_fault;
  leaves = g.leaves;
  leaves_are = g.leaves_are;
  holds = λ dims more. next dims g.leaves (g.holds dims more);
}

-- nothing but the number has changed
pub Gives-none : (s : List Binder) (a : Walk) (P : Claim) → a.scope ≡ s → ((dims : List (List ℕ)) → P dims []) → Gives s [] a (numbered a) P
Gives-none s a P here claim = record {
  scope = here;
  dims = refl;
  no_fault = refl;
  leaves = [];
  leaves_are = sym (append-nil a.leaves);
  holds = λ dims more. claim dims;
}

pub Gives-leaf : (s : List Binder) (a : Walk) (one : Leaf) (P : Claim) → a.scope ≡ s → ((dims : List (List ℕ)) → P dims (one ∷ [])) → Gives s [] a (noted (numbered a) one) P
Gives-leaf s a one P here claim = record {
  scope = here;
  dims = refl;
  no_fault = refl;
  leaves = one ∷ [];
  leaves_are = refl;
  holds = λ dims more. claim dims;
}

pub Gives-numbered : (s : List Binder) (es : List Event) (a b : Walk) (P : Claim) → Gives s es a b P → Gives s es a (numbered b) P
Gives-numbered s es a b P g = record {
  scope = g.scope;
  dims = g.dims;
  no_fault = g.no_fault;
  leaves = g.leaves;
  leaves_are = g.leaves_are;
  holds = g.holds;
}

pub numbered-Gives : (s : List Binder) (es : List Event) (a b : Walk) (P : Claim) → Gives s es (numbered a) b P → Gives s es a b P
numbered-Gives s es a b P g = record {
  scope = g.scope;
  dims = g.dims;
  no_fault = g.no_fault;
  leaves = g.leaves;
  leaves_are = g.leaves_are;
  holds = g.holds;
}

-- a leaf behind the others
pub Gives-noted : (s : List Binder) (es : List Event) (a b : Walk) (one : Leaf) (P Q : Claim)
    → Gives s es a b P → ((dims : List (List ℕ)) (ls : List Leaf) → P dims ls → Q dims (ls ++ one ∷ [])) → Gives s es a (noted b one) Q
Gives-noted s es a b one P Q g next = record {
  scope = g.scope;
  dims = g.dims;
  no_fault = g.no_fault;
  leaves = g.leaves ++ one ∷ [];
  leaves_are = ap (λ ls. ls ++ one ∷ []) g.leaves_are ∙ append_assoc a.leaves g.leaves (one ∷ []);
  holds = λ dims more. next dims g.leaves (g.holds dims more);
}

-- the binders changed before, and changed back
pub Gives-scope : (s t pushed popped : List Binder) (es : List Event) (a b : Walk) (P : Claim)
    → popped ≡ s → Gives t es (record a { scope = pushed }) b P → Gives s es a (record b { scope = popped }) P
Gives-scope s t pushed popped es a b P back g = record {
  scope = back;
  dims = g.dims;
  no_fault = g.no_fault;
  leaves = g.leaves;
  leaves_are = g.leaves_are;
  holds = g.holds;
}

-- a dimension before the other events
pub dimension-Gives : (s : List Binder) (name : List ℕ) (at : Span) (es : List Event) (a b : Walk) (P Q : Claim)
    → refused a.dims (Dimension name at) ≡ None
    → Gives s es (record a { dims = with_dim a.dims name }) b P
    → ((dims : List (List ℕ)) (ls : List Leaf) → Extends (with_dim a.dims name) dims → P dims ls → Q dims ls)
    → Gives s (Dimension name at ∷ es) a b Q
dimension-Gives s name at es a b P Q free g next = record {
  scope = g.scope;
  dims = g.dims;
  no_fault = ap (λ one. first_of one (first_fault (with_dim a.dims name) es)) free ∙ g.no_fault;
  leaves = g.leaves;
  leaves_are = g.leaves_are;
  holds = λ dims more. next dims g.leaves (before s es (record a { dims = with_dim a.dims name }) b P g dims more) (g.holds dims more);
}

-- some steps and then some more
pub both : (t s : List Binder) (es fs : List Event) (a b c : Walk) (P Q R : Claim)
    → Gives t es a b P → Gives s fs b c Q
    → ((dims : List (List ℕ)) (ls ks : List Leaf) → P dims ls → Q dims ks → R dims (ls ++ ks))
    → Gives s (es ++ fs) a c R
both t s es fs a b c P Q R g h next = record {
  scope = h.scope;
  dims = h.dims ∙ ap (λ names. dims_after names fs) g.dims ∙ sym (dims_after-append a.dims es fs);
  no_fault = first_fault-later a.dims es fs g.no_fault ∙ ap (λ names. first_fault names fs) (sym g.dims) ∙ h.no_fault;
  leaves = g.leaves ++ h.leaves;
  leaves_are = h.leaves_are ∙ ap (λ ls. ls ++ h.leaves) g.leaves_are ∙ append_assoc a.leaves g.leaves h.leaves;
  holds = λ dims more. next dims g.leaves h.leaves (g.holds dims (before s fs b c Q h dims more)) (h.holds dims more);
}

-- the fault of what comes after some steps
pub later : (s : List Binder) (es fs : List Event) (a b : Walk) (P : Claim) (fault : ScopeFault)
    → Gives s es a b P → IsFault (first_fault b.dims fs) fault → IsFault (first_fault a.dims (es ++ fs)) fault
later s es fs a b P fault g h =
    subst (λ first. IsFault first fault) (ap (λ names. first_fault names fs) g.dims ∙ sym (first_fault-later a.dims es fs g.no_fault)) h

-- want of memory is always a fault
pub IsFault-Memory : (first : Option ScopeFault) (fault : ScopeFault) → fault ≡ Memory → IsFault first fault
IsFault-Memory first fault e = subst (IsFault first) (sym e) tt

-- what is told of a result, from what is told of it otherwise
pub Tells-map : {A : Type 0} (s t : List Binder) (es fs : List Event) (a b c d : Walk) (r : Result A ScopeFault) (P Q : A → Claim)
    → Tells s es a b r P
    → ((given : A) → Gives s es a b (P given) → Gives t fs c d (Q given))
    → ((fault : ScopeFault) → IsFault (first_fault a.dims es) fault → IsFault (first_fault c.dims fs) fault)
    → Tells t fs c d r Q
Tells-map s t es fs a b c d (Ok given) P Q h good bad = good given h
Tells-map s t es fs a b c d (Err fault) P Q h good bad = bad fault h

-- what is made at the end
pub Tells-last : {A : Type 0} (s : List Binder) (es : List Event) (a b d : Walk) (r : Result A ScopeFault) (own : A) (Q : Walk → A → Claim)
    → MatchResult r (λ given. (given ≡ own) × (d ≡ b)) (λ fault. fault ≡ Memory)
    → Gives s es a b (Q b own)
    → Tells s es a d r (Q d)
Tells-last s es a b d (Ok given) own Q (e, f) g =
    subst (λ w. Gives s es a w (Q w given)) (sym f) (subst (λ c. Gives s es a b (Q b c)) (sym e) g)
Tells-last s es a b d (Err fault) own Q e g = IsFault-Memory (first_fault a.dims es) fault e
