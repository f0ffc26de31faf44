use Rattle.std.proofs.Common.{◌≡◌, ◌≢◌, ◌⊎◌, ℕ, zero, suc, ◌<◌, ◌≤◌, Bool, true, false, List, [], ◌∷◌, ◌++◌, map, slice_get, Option, Some, None, refl, ap, sym, subst, ◌∙◌, inl, inr, append_assoc, if◌then◌else◌, arith}
use Rattle.std.specs.Option.{option_map}
use Rattle.std.specs.Str.{bytes_eq}
use Rattle.std.proofs.lemmas.Option.{none-some, same_Some}
use Rattle.vt_lex.specs.declared.span.Span.{Span}
use Rattle.vt_type.specs.Constants.{Constant, HasName}
use Rattle.vt_syntax.specs.declared.expr.Op.{Op}
use Rattle.vt_syntax.specs.declared.expr.Op.TheVariants as op
use Rattle.vt_syntax.specs.declared.expr.Expr.{Expr}
use Rattle.vt_syntax.specs.declared.expr.Exprs.{Exprs}
use Rattle.vt_syntax.specs.declared.program.Def.{Def}
use Rattle.vt_syntax.specs.declared.program.Program.{Program}
use Rattle.vt_syntax.specs.declared.core_expr.Core.{Core}
use Rattle.vt_syntax.specs.declared.core_expr.Lit.{Lit}
use Rattle.vt_syntax.specs.declared.core_expr.Form.{Form, Literal, Name, Const, Hole}
use Rattle.vt_syntax.specs.declared.core_program.CoreDef.{CoreDef}
use Rattle.vt_syntax.specs.declared.core_program.CoreProgram.{CoreProgram}
use Rattle.vt_syntax.specs.declared.leaf.Leaf.{Leaf}
use Rattle.vt_syntax.specs.declared.leaf.Class.{Class}
use Rattle.vt_syntax.specs.declared.leaf.Class.TheVariants as class
use Rattle.vt_syntax.specs.CoreTrees.{core, choice_form}
use Rattle.vt_syntax.specs.Leaves.{leaf, IsImplied, IsLeafOf, AreLeaves}
use Rattle.vt_syntax.specs.Programs.{nested, binding}
use Rattle.vt_scope.specs.declared.scope.Binder.{Binder}
use Rattle.vt_scope.specs.declared.scope.Found.{Found}
use Rattle.vt_scope.specs.Scopes.{parameter, defined, bound_under, found, further}
use Rattle.vt_scope.specs.Cores as cores
use Rattle.vt_scope.specs.Cores.{IsCore, AreItems, AreNested, IsCoreProgram, NamesNoImplied, op_id}
use Rattle.vt_scope.proofs.Closing.{binding-is}
use Rattle.vt_scope.proofs.LeafLists.{In, In-left, In-right, In-either, In-moved, In-back, Apart, Apart-append, Apart-moved, listed, listed-in, different}

-- The leaves that are noted are exactly those of the core, each once.

-- the classes of binders
abbrev classes : List Binder → List Class
classes s = map (λ (b : Binder). b.class) s

-- the class of the binder that is found
found_class : (s : List Binder) (name : List ℕ) (binder : Found) → found s name ≡ Some binder → slice_get (classes s) binder.distance ≡ Some binder.class
found_class [] name binder h = absurd (none-some binder h)
found_class (x ∷ s) name binder h = by (bytes_eq x.name name) (found s name) refl (found_class s name) h
  where
    by : (b : Bool) (o : Option Found) → found s name ≡ o → ((one : Found) → found s name ≡ Some one → slice_get (classes s) one.distance ≡ Some one.class)
        → (if b then Some (record { distance = 0; class = x.class }) else option_map further o) ≡ Some binder → slice_get (classes (x ∷ s)) binder.distance ≡ Some binder.class
    by true o e rest k =
        let first : Found = record { distance = 0; class = x.class } in
        subst (λ (u : Found). slice_get (classes (x ∷ s)) u.distance ≡ Some u.class) (same_Some first binder k) refl
    by false None e rest k = absurd (none-some binder k)
    by false (Some one) e rest k =
        subst (λ (u : Found). slice_get (classes (x ∷ s)) u.distance ≡ Some u.class) (same_Some (further one) binder k) (rest one e)

-- Of a core under binders of these classes, with its numbers from a first one up to a last one: exactly
-- these are its leaves, and no two have one number.
record Noted (cs : List Class) (n : ℕ) (c : Core) (ls : List Leaf) (m : ℕ) : Type 0 where
  upward : n < m
  all : (one : Leaf) → IsLeafOf cs one c → In ls one
  each : (one : Leaf) → In ls one → IsLeafOf cs one c
  within : (one : Leaf) → In ls one → (n ≤ one.node) × (one.node < m)
  apart : Apart ls

-- one leaf, and none
one-leaf : (cs : List Class) (n : ℕ) (c : Core) (own : Leaf) → own.node ≡ n → ((one : Leaf) → IsLeafOf cs one c → one ≡ own) → IsLeafOf cs own c → Noted cs n c (own ∷ []) (suc n)
one-leaf cs n c own number only is = record {
  upward = omega arith;
  all = λ one h. inl (sym (only one h));
  each = each_of;
  within = within_of;
  apart = ((λ one h. absurd h), tt);
}
  where
    each_of : (one : Leaf) → In (own ∷ []) one → IsLeafOf cs one c
    each_of one (inl e) = subst (λ l. IsLeafOf cs l c) e is
    each_of one (inr h) = absurd h

    within_of : (one : Leaf) → In (own ∷ []) one → (n ≤ one.node) × (one.node < suc n)
    within_of one (inl e) = let same : own.node ≡ one.node = ap (λ (l : Leaf). l.node) e in (omega (arith, same, number), omega (arith, same, number))
    within_of one (inr h) = absurd h

no-leaf : (cs : List Class) (n : ℕ) (c : Core) → ((one : Leaf) → IsLeafOf cs one c → ⊥) → Noted cs n c [] (suc n)
no-leaf cs n c none = record {
  upward = omega arith;
  all = λ one h. absurd (none one h);
  each = λ one h. absurd h;
  within = λ one h. absurd h;
  apart = tt;
}

-- an implied constant
implied : (cs : List Class) (n id : ℕ) (at : Span) → IsImplied id → Noted cs n (cores.constant n at id) [] (suc n)
implied cs n id at is = no-leaf cs n (cores.constant n at id) (λ one h. h.0 is)

written : (cs : List Class) (n id : ℕ) (at : Span) → (IsImplied id → ⊥) → Noted cs n (cores.constant n at id) (leaf at class.Constant n ∷ []) (suc n)
written cs n id at not = one-leaf cs n (cores.constant n at id) (leaf at class.Constant n) refl (λ one h. h.1) (not, refl)

-- the range of numbers may be larger
wider : (cs : List Class) (n : ℕ) (c : Core) (ls : List Leaf) (m k : ℕ) → m ≤ k → Noted cs n c ls m → Noted cs n c ls k
wider cs n c ls m k le h = let up = h.upward in record {
  upward = omega (arith, le, up);
  all = h.all;
  each = h.each;
  within = λ one i. let w = h.within one i in (w.0, omega (arith, w.1, le));
  apart = h.apart;
}

-- two parts, the second of which has the larger numbers
module _ (es cs ds : List Class) (n i j m : ℕ) (c d whole : Core) (ls ks : List Leaf) (p : Noted cs n c ls i) (q : Noted ds j d ks m) (le : i ≤ j) (k : ℕ) (below : m ≤ k) where
  two_apart : Apart (ls ++ ks)
  two_apart = Apart-append ls ks p.apart q.apart (λ a b h g same. let low = (p.within a h).1 in let high = (q.within b g).0 in absurd (omega (arith, low, high, le, same)))

  two_within : (one : Leaf) → In (ls ++ ks) one → (n ≤ one.node) × (one.node < k)
  two_within one h = by (In-either ls ks one h)
    where
      by : In ls one ⊎ In ks one → (n ≤ one.node) × (one.node < k)
      by (inl g) = let w = p.within one g in let up = q.upward in (w.0, omega (arith, w.1, le, below, up))
      by (inr g) = let w = q.within one g in let up = p.upward in (omega (arith, w.0, le, up), omega (arith, w.1, below))

  two : ((one : Leaf) → IsLeafOf es one whole → IsLeafOf cs one c ⊎ IsLeafOf ds one d) → ((one : Leaf) → IsLeafOf cs one c ⊎ IsLeafOf ds one d → IsLeafOf es one whole)
      → Noted es n whole (ls ++ ks) k
  two apart_of whole_of = record {
    upward = let up = p.upward in let more = q.upward in omega (arith, up, more, le, below);
    all = λ one h. all_of one (apart_of one h);
    each = λ one h. whole_of one (each_of one (In-either ls ks one h));
    within = two_within;
    apart = two_apart;
  }
    where
      all_of : (one : Leaf) → IsLeafOf cs one c ⊎ IsLeafOf ds one d → In (ls ++ ks) one
      all_of one (inl h) = In-left ls ks one (p.all one h)
      all_of one (inr h) = In-right ls ks one (q.all one h)

      each_of : (one : Leaf) → In ls one ⊎ In ks one → IsLeafOf cs one c ⊎ IsLeafOf ds one d
      each_of one (inl h) = inl (p.each one h)
      each_of one (inr h) = inr (q.each one h)

-- an application, a binding and a choice
module _ (cs : List Class) (n i : ℕ) (c d : Core) (ls ks : List Leaf) (p : Noted cs n c ls i) where
  application : (k : ℕ) (at : Span) → Noted cs i d ks k → Noted cs n (cores.applied k at c d) (ls ++ ks) (suc k)
  application k at q = two cs cs cs n i i k c d (cores.applied k at c d) ls ks p q (omega arith) (suc k) (omega arith) (λ one h. h) (λ one h. h)

  choice : (k dim : ℕ) (at : Span) → Noted cs i d ks k → Noted cs n (core k at (choice_form dim c d)) (ls ++ ks) (suc k)
  choice k dim at q = two cs cs cs n i i k c d (core k at (choice_form dim c d)) ls ks p q (omega arith) (suc k) (omega arith) (λ one h. h) (λ one h. h)

function-leaves : (cs : List Class) (n i : ℕ) (at : Span) (c : Core) (ls : List Leaf) → Noted (class.Parameter ∷ cs) n c ls i → Noted cs n (cores.function i at c) ls (suc i)
function-leaves cs n i at c ls p = let up = p.upward in record {
  upward = omega (arith, up);
  all = p.all;
  each = p.each;
  within = λ one h. let w = p.within one h in (w.0, omega (arith, w.1));
  apart = p.apart;
}

binding-leaves : (s : List Binder) (n i k : ℕ) (at : Span) (recursive : Bool) (name own : List ℕ) (name_at : Span) (c d : Core) (ls ks : List Leaf)
    → Noted (classes (bound_under recursive own s)) n c ls i → Noted (class.Defined ∷ classes s) (suc i) d ks k
    → Noted (classes s) n (core i at (cores.bound_form recursive name name_at c d)) (ls ++ ks) k
binding-leaves s n i k at true name own name_at c d ls ks p q =
    two (classes s) (class.Defined ∷ classes s) (class.Defined ∷ classes s) n i (suc i) k c d (core i at (cores.bound_form true name name_at c d)) ls ks p q (omega arith) k (omega arith) (λ one h. h) (λ one h. h)
binding-leaves s n i k at false name own name_at c d ls ks p q =
    two (classes s) (classes s) (class.Defined ∷ classes s) n i (suc i) k c d (core i at (cores.bound_form false name name_at c d)) ls ks p q (omega arith) k (omega arith) (λ one h. h) (λ one h. h)

-- a leaf that is noted between the two parts of an application
moved : (cs : List Class) (n : ℕ) (c : Core) (x : Leaf) (ls ks : List Leaf) (m : ℕ) → Noted cs n c (x ∷ ls ++ ks) m → Noted cs n c (ls ++ x ∷ ks) m
moved cs n c x ls ks m h = record {
  upward = h.upward;
  all = λ one g. In-moved x ls ks one (h.all one g);
  each = λ one g. h.each one (In-back x ls ks one g);
  within = λ one g. h.within one (In-back x ls ks one g);
  apart = Apart-moved x ls ks h.apart;
}

-- an operator is written
op-written : (op : Op) → IsImplied (op_id op) → ⊥
op-written op.Add (low, high) = absurd (omega (arith, low))
op-written op.Sub (low, high) = absurd (omega (arith, low))
op-written op.Mul (low, high) = absurd (omega (arith, low))
op-written op.Cat (low, high) = absurd (omega (arith, low))
op-written op.Equal (low, high) = absurd (omega (arith, low))
op-written op.Less (low, high) = absurd (omega (arith, low))
op-written op.Cons (low, high) = absurd (omega (arith, low))
op-written op.And (low, high) = absurd (omega (arith, low))
op-written op.Or (low, high) = absurd (omega (arith, low))

literal-leaf : (cs : List Class) (n : ℕ) (at : Span) (literal : Lit) → Noted cs n (core n at (Literal literal)) (leaf at class.Literal n ∷ []) (suc n)
literal-leaf cs n at literal = one-leaf cs n (core n at (Literal literal)) (leaf at class.Literal n) refl (λ one h. h) refl

name-leaf : (s : List Binder) (n : ℕ) (at : Span) (name : List ℕ) (binder : Found) → found s name ≡ Some binder
    → Noted (classes s) n (core n at (Name binder.distance)) (leaf at binder.class n ∷ []) (suc n)
name-leaf s n at name binder is =
    one-leaf (classes s) n (core n at (Name binder.distance)) (leaf at binder.class n) refl
    (λ one h. h.2 ∙ ap (λ own. leaf at own n) (same_Some h.0 binder.class (sym h.1 ∙ found_class s name binder is)))
    (binder.class, found_class s name binder is, refl)

module _ (constants : List Constant) (dims : List (List ℕ)) (unnamed : NamesNoImplied constants) where
  mutual
    noted-core : (s : List Binder) (n : ℕ) (e : Expr) (c : Core) (ls : List Leaf) (m : ℕ) → IsCore constants dims s n e c ls m → Noted (classes s) n c ls m
    noted-core _ _ _ _ _ _ (cores.number s n at value) = literal-leaf (classes s) n at _
    noted-core _ _ _ _ _ _ (cores.quoted s n at) = literal-leaf (classes s) n at _
    noted-core _ _ _ _ _ _ (cores.truth s n at value) = literal-leaf (classes s) n at _
    noted-core _ _ _ _ _ _ (cores.bound s n at name binder is) = name-leaf s n at name binder is
    noted-core _ _ _ _ _ _ (cores.named s n at name id none has) = written (classes s) n id at (λ is. unnamed id name is has)
    noted-core _ _ _ _ _ _ (cores.hole s n at) = no-leaf (classes s) n (core n at Hole) (λ one h. h)
    noted-core _ _ _ _ _ _ (cores.fun s n i at name name_at f d ks p) =
        function-leaves (classes s) n i at d ks (noted-core (parameter name ∷ s) n f d ks i p)
    noted-core _ _ _ _ _ _ (cores.let_in s n i k at recursive name name_at f g d h ks js p q) =
        binding-leaves s n i k at recursive name name name_at d h ks js (noted-core (bound_under recursive name s) n f d ks i p) (noted-core (defined name ∷ s) (suc i) g h js k q)
    noted-core _ _ _ _ _ _ (cores.if_else s n i j k at f g h x y z ks js is p q r) =
        let cs = classes s in
        application cs n (suc j) (cores.applied j at (cores.applied i at (cores.constant n at 16) x) y) z (ks ++ js) is
        (application cs n (suc i) (cores.applied i at (cores.constant n at 16) x) y ks js
        (application cs n (suc n) (cores.constant n at 16) x [] ks (implied cs n 16 at (omega arith, omega arith)) i at (noted-core s (suc n) f x ks i p))
        j at (noted-core s (suc i) g y js j q))
        k at (noted-core s (suc j) h z is k r)
    noted-core _ _ _ _ _ _ (cores.match_list s n i j k at first first_at rest rest_at f g h x y z ks js is p q r) =
        let cs = classes s in
        let arm = cores.function (suc k) (cores.up_to first_at at) (cores.function k (cores.up_to first_at at) z) in
        application cs n (suc j) (cores.applied j at (cores.applied i at (cores.constant n at 17) x) y) arm (ks ++ js) is
        (application cs n (suc i) (cores.applied i at (cores.constant n at 17) x) y ks js
        (application cs n (suc n) (cores.constant n at 17) x [] ks (implied cs n 17 at (omega arith, omega arith)) i at (noted-core s (suc n) f x ks i p))
        j at (noted-core s (suc i) g y js j q))
        (suc (suc k)) at
        (function-leaves cs (suc j) (suc k) (cores.up_to first_at at) (cores.function k (cores.up_to first_at at) z) is
        (function-leaves (class.Parameter ∷ cs) (suc j) k (cores.up_to first_at at) z is (noted-core (parameter rest ∷ parameter first ∷ s) (suc j) h z is k r)))
    noted-core _ _ _ _ _ _ (cores.operation s n i k at op op_at f g x y ks js p q) =
        let cs = classes s in
        let own = cores.constant n op_at (op_id op) in
        subst (λ all. Noted cs n (cores.applied k at (cores.applied i at own x) y) all (suc k)) (sym (append_assoc ks (leaf op_at class.Constant n ∷ []) js))
        (moved cs n (cores.applied k at (cores.applied i at own x) y) (leaf op_at class.Constant n) ks js (suc k)
        (application cs n (suc i) (cores.applied i at own x) y (leaf op_at class.Constant n ∷ ks) js
        (application cs n (suc n) own x (leaf op_at class.Constant n ∷ []) ks (written cs n (op_id op) op_at (op-written op)) i at (noted-core s (suc n) f x ks i p))
        k at (noted-core s (suc i) g y js k q)))
    noted-core _ _ _ _ _ _ (cores.apply s n i k at f g x y ks js p q) =
        application (classes s) n i x y ks js (noted-core s n f x ks i p) k at (noted-core s i g y js k q)
    noted-core _ _ _ _ _ _ (cores.pair s n i k at f g x y ks js p q) =
        let cs = classes s in
        application cs n (suc i) (cores.applied i at (cores.constant n at 13) x) y ks js
        (application cs n (suc n) (cores.constant n at 13) x [] ks (implied cs n 13 at (omega arith, omega arith)) i at (noted-core s (suc n) f x ks i p))
        k at (noted-core s (suc i) g y js k q)
    noted-core _ _ _ _ _ _ (cores.list s n k at items d ks p) = noted-items s at at n items d ks k p
    noted-core _ _ _ _ _ _ (cores.choice s n i k at name dim name_at f g x y ks js has p q) =
        choice (classes s) n i x y ks js (noted-core s n f x ks i p) k dim at (noted-core s i g y js k q)

    noted-items : (s : List Binder) (whole here : Span) (n : ℕ) (es : Exprs) (c : Core) (ls : List Leaf) (m : ℕ) → AreItems constants dims s whole here n es c ls m → Noted (classes s) n c ls m
    noted-items _ _ _ _ _ _ _ _ (cores.none s whole here n) = implied (classes s) n 14 here (omega arith, omega arith)
    noted-items _ _ _ _ _ _ _ _ (cores.more s whole here n i k f fs x y ks js p q) =
        let cs = classes s in
        application cs n (suc i) (cores.applied i here (cores.constant n whole 15) x) y ks js
        (application cs n (suc n) (cores.constant n whole 15) x [] ks (implied cs n 15 whole (omega arith, omega arith)) i here (noted-core s (suc n) f x ks i p))
        k here (noted-items s whole (cores.left_span whole fs) (suc i) fs y js k q)

  noted-nested : (s : List Binder) (n : ℕ) (defs : List Def) (e : Expr) (all : List CoreDef) (main : Core) (ls : List Leaf) (m : ℕ)
      → AreNested constants dims s n defs e all main ls m → Noted (classes s) n (nested all main) ls m
  noted-nested _ _ _ _ _ _ _ _ (cores.main s n m e c ls p) = noted-core s n e c ls m p
  noted-nested _ _ _ _ _ _ _ _ (cores.def s n i k def others e b bodies main ls ks p q) =
      subst (λ form. Noted (classes s) n (core i def.name_span form) (ls ++ ks) k) (sym (binding-is constants dims (cores.core_def def i b) def.recursive (nested bodies main)))
      (binding-leaves s n i k def.name_span def.recursive def.name def.name def.name_span b (nested bodies main) ls ks
      (noted-core (bound_under def.recursive def.name s) n def.body b ls i p) (noted-nested (defined def.name ∷ s) (suc i) others e bodies main ks k q))

  pub program-leaves : (program : Program) (core : CoreProgram) (leaves : List Leaf) → IsCoreProgram constants dims program core leaves → AreLeaves core leaves
  program-leaves program core leaves is =
      let all = noted-nested [] 1 program.defs program.main core.defs core.main leaves is.next is.nested in
      record {
        exactly = λ one. ((λ h. listed leaves one (all.all one h)), (λ h. all.each one (listed-in leaves h.0 one h.1)));
        different = different leaves all.apart;
      }
