use Rattle.std.proofs.Common.{◌≡◌, ℕ, zero, suc, ◌+◌, ◌<◌, Bool, true, false, ◌||◌, List, [], ◌∷◌, ◌++◌, map, Option, Some, None, slice_get, refl, ap, sym, subst, ◌∙◌, true≢false, if◌then◌else◌, arith}
use Rattle.std.specs.List.{list_any}
use Rattle.std.specs.Str.{bytes_eq}
use Rattle.std.proofs.lemmas.Option.{none-some, same_Some}
use Rattle.std.proofs.lemmas.Slice.Eq.{bytes_eq-Decides}
use Rattle.vt_lex.specs.declared.span.Span.{Span}
use Rattle.vt_type.specs.Names.{AreDistinct}
use Rattle.vt_type.specs.Constants.{Constant, IsTable, HasName}
use Rattle.vt_type.proofs.Naming.{AreDistinct-push, at-Contains}
use Rattle.vt_syntax.specs.declared.expr.Expr.{Expr}
use Rattle.vt_syntax.specs.declared.expr.Exprs.{Exprs, Nil}
use Rattle.vt_syntax.specs.declared.expr.ExprForm.{ExprForm}
use Rattle.vt_syntax.specs.declared.expr.ExprForm as form
use Rattle.vt_syntax.specs.declared.program.Def.{Def}
use Rattle.vt_syntax.specs.declared.program.Program.{Program}
use Rattle.vt_syntax.specs.declared.core_expr.Core.{Core}
use Rattle.vt_syntax.specs.declared.core_expr.Form.{Literal, Name, Hole}
use Rattle.vt_syntax.specs.declared.core_expr.Lit.TheVariants as lit
use Rattle.vt_syntax.specs.declared.core_program.CoreDef.{CoreDef}
use Rattle.vt_syntax.specs.declared.core_program.CoreProgram.{CoreProgram}
use Rattle.vt_syntax.specs.declared.leaf.Leaf.{Leaf}
use Rattle.vt_syntax.specs.declared.leaf.Class.TheVariants as class
use Rattle.vt_syntax.specs.Leaves.{leaf}
use Rattle.vt_syntax.specs.SurfaceTrees as surface
use Rattle.vt_syntax.specs.SurfaceTrees.{exprs_of}
use Rattle.vt_syntax.specs.CoreTrees.{core, choice_form}
use Rattle.vt_scope.specs.declared.scope.Binder.{Binder}
use Rattle.vt_scope.specs.declared.scope.Found.{Found}
use Rattle.vt_scope.specs.Scopes.{parameter, defined, bound_under, found}
use Rattle.vt_scope.specs.Faults.{Event, Nameless, Dimension, with_dim, dims_after, dims_of, program_events}
use Rattle.vt_scope.specs.Cores as cores
use Rattle.vt_scope.specs.Cores.{IsCore, AreItems, AreNested, IsCoreProgram, applied, function, constant, bound_form, op_id, left_span, up_to, core_def}
use Rattle.vt_scope.specs.Erased.{HasOneCore}
use Rattle.vt_scope.proofs.ScopeLists.{any-at}
use Rattle.vt_scope.proofs.Selecting.{id_of, id_of-is}

-- The core of an expression as a function, and so the only one.

record Translation : Type 0 where
  core : Core
  leaves : List Leaf
  next : ℕ

abbrev made : Core → List Leaf → ℕ → Translation
made c ls m = record { core = c; leaves = ls; next = m }

-- a translation, and what is made of it
abbrev and_then : Translation → (Core → List Leaf → ℕ → Translation) → Translation
and_then t k = k t.core t.leaves t.next

-- one, two or three translations, one after another
one_made : (t : Translation) (k : Core → List Leaf → ℕ → Translation) (c : Core) (ls : List Leaf) (i : ℕ) → t ≡ made c ls i → and_then t k ≡ k c ls i
one_made t k c ls i e = ap (λ u. and_then u k) e

two_made : (t : Translation) (u : ℕ → Translation) (next : ℕ → ℕ) (k : Core → List Leaf → ℕ → Core → List Leaf → ℕ → Translation) (c d : Core) (ls ks : List Leaf) (i j : ℕ)
    → t ≡ made c ls i → u (next i) ≡ made d ks j → and_then t (λ c ls i. and_then (u (next i)) (k c ls i)) ≡ k c ls i d ks j
two_made t u next k c d ls ks i j e f = one_made t (λ c ls i. and_then (u (next i)) (k c ls i)) c ls i e ∙ one_made (u (next i)) (k c ls i) d ks j f

three_made : (t : Translation) (u v : ℕ → Translation) (k : Core → List Leaf → ℕ → Core → List Leaf → ℕ → Core → List Leaf → ℕ → Translation) (c d h : Core) (ls ks js : List Leaf) (i j m : ℕ)
    → t ≡ made c ls i → u (suc i) ≡ made d ks j → v (suc j) ≡ made h js m
    → and_then t (λ c ls i. and_then (u (suc i)) (λ d ks j. and_then (v (suc j)) (k c ls i d ks j))) ≡ k c ls i d ks j h js m
three_made t u v k c d h ls ks js i j m e f g =
    two_made t u (λ i. suc i) (λ c ls i d ks j. and_then (v (suc j)) (k c ls i d ks j)) c d ls ks i j e f ∙ one_made (v (suc j)) (k c ls i d ks j) h js m g

-- the number of a dimension
abbrev number_of : List (List ℕ) → List ℕ → ℕ
number_of [] name = 0
number_of (own ∷ dims) name = if bytes_eq own name then 0 else suc (number_of dims name)

number_of-is : (dims : List (List ℕ)) (k : ℕ) (name : List ℕ) → ((other : ℕ) → slice_get dims other ≡ Some name → k ≡ other) → slice_get dims k ≡ Some name → number_of dims name ≡ k
number_of-is [] k name only h = absurd (none-some name h)
number_of-is (own ∷ dims) zero name only h =
    ap (λ b. if b then 0 else suc (number_of dims name)) ((bytes_eq-Decides own name).1 (same_Some own name h))
number_of-is (own ∷ dims) (suc k) name only h =
    by (bytes_eq own name) refl (number_of-is dims k name (λ other g. let e = only (suc other) g in omega (arith, e)) h)
  where
    by : (b : Bool) → bytes_eq own name ≡ b → number_of dims name ≡ k → (if b then 0 else suc (number_of dims name)) ≡ suc k
    by false f rest = ap suc rest
    by true f rest = let equal : suc k ≡ 0 = only 0 (ap Some ((bytes_eq-Decides own name).0 f)) in absurd (omega (arith, equal))

-- the dimensions of a program are distinct
distinct-with : (dims : List (List ℕ)) (name : List ℕ) → AreDistinct dims → AreDistinct (with_dim dims name)
distinct-with dims name h = by (list_any (bytes_eq name) dims) refl
  where
    by : (b : Bool) → list_any (bytes_eq name) dims ≡ b → AreDistinct (if b then dims else (dims ++ name ∷ []))
    by true e = h
    by false e = AreDistinct-push dims name h (λ c. let at = at-Contains dims name c in true≢false (sym (any-at dims at.0 name at.1) ∙ e))

distinct-after : (dims : List (List ℕ)) (es : List Event) → AreDistinct dims → AreDistinct (dims_after dims es)
distinct-after dims [] h = h
distinct-after dims (Nameless at ∷ es) h = distinct-after dims es h
distinct-after dims (Dimension name at ∷ es) h = distinct-after (with_dim dims name) es (distinct-with dims name h)

module _ (constants : List Constant) (dims : List (List ℕ)) where
  abbrev name_made : ℕ → Span → List ℕ → Option Found → Translation
  name_made n at name (Some binder) = made (core n at (Name binder.distance)) (leaf at binder.class n ∷ []) (suc n)
  name_made n at name None = made (constant n at (id_of constants name)) (leaf at class.Constant n ∷ []) (suc n)

  abbrev mutual
    translated : List Binder → ℕ → Span → ExprForm → Translation
    translated s n at (form.Number value) = made (core n at (Literal (lit.Number value))) (leaf at class.Literal n ∷ []) (suc n)
    translated s n at form.Quoted = made (core n at (Literal lit.Quoted)) (leaf at class.Literal n ∷ []) (suc n)
    translated s n at (form.Truth value) = made (core n at (Literal (lit.Truth value))) (leaf at class.Literal n ∷ []) (suc n)
    translated s n at (form.Name name) = name_made n at name (found s name)
    translated s n at form.Hole = made (core n at Hole) [] (suc n)
    translated s n at (surface.fun_of name name_at by body) = and_then (translated (parameter name ∷ s) n by body) (λ c ls m. made (function m at c) ls (suc m))
    translated s n at (surface.let_of recursive name name_at by bound to body) =
        and_then (translated (bound_under recursive name s) n by bound)
        (λ c ls m. and_then (translated (defined name ∷ s) (suc m) to body) (λ d ks k. made (core m at (bound_form recursive name name_at c d)) (ls ++ ks) k))
    translated s n at (surface.if_of by condition to met on unmet) =
        and_then (translated s (suc n) by condition)
        (λ c ls i. and_then (translated s (suc i) to met)
        (λ d ks j. and_then (translated s (suc j) on unmet)
        (λ h js k. made (applied k at (applied j at (applied i at (constant n at 16) c) d) h) (ls ++ ks ++ js) (suc k))))
    translated s n at (surface.match_of by list to empty first first_at rest rest_at on cell) =
        and_then (translated s (suc n) by list)
        (λ c ls i. and_then (translated s (suc i) to empty)
        (λ d ks j. and_then (translated (parameter rest ∷ parameter first ∷ s) (suc j) on cell)
        (λ h js k. made (applied (suc (suc k)) at (applied j at (applied i at (constant n at 17) c) d) (function (suc k) (up_to first_at at) (function k (up_to first_at at) h))) (ls ++ ks ++ js) (suc (suc (suc k))))))
    translated s n at (surface.op_of op op_at by left to right) =
        and_then (translated s (suc n) by left)
        (λ c ls i. and_then (translated s (suc i) to right)
        (λ d ks k. made (applied k at (applied i at (constant n op_at (op_id op)) c) d) (ls ++ leaf op_at class.Constant n ∷ [] ++ ks) (suc k)))
    translated s n at (surface.apply_of by left to right) =
        and_then (translated s n by left) (λ c ls i. and_then (translated s i to right) (λ d ks k. made (applied k at c d) (ls ++ ks) (suc k)))
    translated s n at (surface.pair_of by left to right) =
        and_then (translated s (suc n) by left)
        (λ c ls i. and_then (translated s (suc i) to right) (λ d ks k. made (applied k at (applied i at (constant n at 13) c) d) (ls ++ ks) (suc k)))
    translated s n at (form.List items) = items_translated s at at n items
    translated s n at (surface.choice_of name name_at by left to right) =
        and_then (translated s n by left)
        (λ c ls i. and_then (translated s i to right) (λ d ks k. made (core k at (choice_form (number_of dims name) c d)) (ls ++ ks) (suc k)))

    items_translated : List Binder → Span → Span → ℕ → Exprs → Translation
    items_translated s whole here n Nil = made (constant n here 14) [] (suc n)
    items_translated s whole here n (exprs_of at first rest) =
        and_then (translated s (suc n) at first)
        (λ c ls i. and_then (items_translated s whole (left_span whole rest) (suc i) rest) (λ d ks k. made (applied k here (applied i here (constant n whole 15) c) d) (ls ++ ks) (suc k)))

  module _ (table : IsTable constants) (distinct : AreDistinct dims) where
    mutual
      only : (s : List Binder) (n : ℕ) (e : Expr) (c : Core) (ls : List Leaf) (m : ℕ) → IsCore constants dims s n e c ls m → translated s n e.span e.form ≡ made c ls m
      only _ _ _ _ _ _ (cores.number s n at value) = refl
      only _ _ _ _ _ _ (cores.quoted s n at) = refl
      only _ _ _ _ _ _ (cores.truth s n at value) = refl
      only _ _ _ _ _ _ (cores.bound s n at name binder is) = ap (name_made n at name) is
      only _ _ _ _ _ _ (cores.named s n at name id none has) =
          ap (name_made n at name) none ∙ ap (λ k. made (constant n at k) (leaf at class.Constant n ∷ []) (suc n)) (id_of-is constants id name (λ other h. table.names_differ id other name has h) has)
      only _ _ _ _ _ _ (cores.hole s n at) = refl
      only _ _ _ _ _ _ (cores.fun s n i at name name_at f d ks p) = one_made (translated (parameter name ∷ s) n f.span f.form) (λ c ls m. made (function m at c) ls (suc m)) d ks i (only (parameter name ∷ s) n f d ks i p)
      only _ _ _ _ _ _ (cores.let_in s n i k at recursive name name_at f g d h ks js p q) =
          two_made (translated (bound_under recursive name s) n f.span f.form) (λ n. translated (defined name ∷ s) n g.span g.form) (λ i. suc i)
          (λ c ls m d ks k. made (core m at (bound_form recursive name name_at c d)) (ls ++ ks) k) d h ks js i k (only (bound_under recursive name s) n f d ks i p) (only (defined name ∷ s) (suc i) g h js k q)
      only _ _ _ _ _ _ (cores.if_else s n i j k at f g h x y z ks js is p q r) =
          three_made (translated s (suc n) f.span f.form) (λ n. translated s n g.span g.form) (λ n. translated s n h.span h.form)
          (λ c ls i d ks j h js k. made (applied k at (applied j at (applied i at (constant n at 16) c) d) h) (ls ++ ks ++ js) (suc k)) x y z ks js is i j k
          (only s (suc n) f x ks i p) (only s (suc i) g y js j q) (only s (suc j) h z is k r)
      only _ _ _ _ _ _ (cores.match_list s n i j k at first first_at rest rest_at f g h x y z ks js is p q r) =
          three_made (translated s (suc n) f.span f.form) (λ n. translated s n g.span g.form) (λ n. translated (parameter rest ∷ parameter first ∷ s) n h.span h.form)
          (λ c ls i d ks j h js k. made (applied (suc (suc k)) at (applied j at (applied i at (constant n at 17) c) d) (function (suc k) (up_to first_at at) (function k (up_to first_at at) h))) (ls ++ ks ++ js) (suc (suc (suc k)))) x y z ks js is i j k
          (only s (suc n) f x ks i p) (only s (suc i) g y js j q) (only (parameter rest ∷ parameter first ∷ s) (suc j) h z is k r)
      only _ _ _ _ _ _ (cores.operation s n i k at op op_at f g x y ks js p q) =
          two_made (translated s (suc n) f.span f.form) (λ n. translated s n g.span g.form) (λ i. suc i) (λ c ls i d ks k. made (applied k at (applied i at (constant n op_at (op_id op)) c) d) (ls ++ leaf op_at class.Constant n ∷ [] ++ ks) (suc k)) x y ks js i k
          (only s (suc n) f x ks i p) (only s (suc i) g y js k q)
      only _ _ _ _ _ _ (cores.apply s n i k at f g x y ks js p q) = two_made (translated s n f.span f.form) (λ n. translated s n g.span g.form) (λ i. i) (λ c ls i d ks k. made (applied k at c d) (ls ++ ks) (suc k)) x y ks js i k (only s n f x ks i p) (only s i g y js k q)
      only _ _ _ _ _ _ (cores.pair s n i k at f g x y ks js p q) =
          two_made (translated s (suc n) f.span f.form) (λ n. translated s n g.span g.form) (λ i. suc i) (λ c ls i d ks k. made (applied k at (applied i at (constant n at 13) c) d) (ls ++ ks) (suc k)) x y ks js i k
          (only s (suc n) f x ks i p) (only s (suc i) g y js k q)
      only _ _ _ _ _ _ (cores.list s n k at items d ks p) = only-items s at at n items d ks k p
      only _ _ _ _ _ _ (cores.choice s n i k at name dim name_at f g x y ks js has p q) =
          two_made (translated s n f.span f.form) (λ n. translated s n g.span g.form) (λ i. i) (λ c ls i d ks k. made (core k at (choice_form (number_of dims name) c d)) (ls ++ ks) (suc k)) x y ks js i k (only s n f x ks i p) (only s i g y js k q)
          ∙ (ap (λ number. made (core k at (choice_form number x y)) (ks ++ js) (suc k)) (number_of-is dims dim name (λ other h. distinct dim other name has h) has))

      only-items : (s : List Binder) (whole here : Span) (n : ℕ) (es : Exprs) (c : Core) (ls : List Leaf) (m : ℕ) → AreItems constants dims s whole here n es c ls m → items_translated s whole here n es ≡ made c ls m
      only-items _ _ _ _ _ _ _ _ (cores.none s whole here n) = refl
      only-items _ _ _ _ _ _ _ _ (cores.more s whole here n i k f fs x y ks js p q) =
          two_made (translated s (suc n) f.span f.form) (λ n. items_translated s whole (left_span whole fs) n fs) (λ i. suc i) (λ c ls i d ks k. made (applied k here (applied i here (constant n whole 15) c) d) (ls ++ ks) (suc k)) x y ks js i k
          (only s (suc n) f x ks i p) (only-items s whole (left_span whole fs) (suc i) fs y js k q)

    only-nested : (s : List Binder) (n : ℕ) (defs : List Def) (e : Expr) (all others : List CoreDef) (c d : Core) (ls ks : List Leaf) (m k : ℕ)
        → AreNested constants dims s n defs e all c ls m → AreNested constants dims s n defs e others d ks k
        → (all ≡ others) × (c ≡ d) × (ls ≡ ks)
    only-nested _ _ _ _ _ _ _ _ _ _ _ _ (cores.main s n m e c ls p) (cores.main t i k f d ks q) =
        let same = sym (only s n e c ls m p) ∙ only s n e d ks k q in
        (refl, ap (λ t. t.core) same, ap (λ t. t.leaves) same)
    only-nested _ _ _ _ _ _ _ _ _ _ _ _
        (cores.def s n m1 k1 def defs1 e b1 cores1 c ls1 ls2 p ps) (cores.def t i m2 k2 own defs2 f b2 cores2 d ks1 ks2 q qs) =
        let same = sym (only (bound_under def.recursive def.name s) n def.body b1 ls1 m1 p) ∙ only (bound_under def.recursive def.name s) n def.body b2 ks1 m2 q in
        let moved = subst (λ next. AreNested constants dims (defined def.name ∷ s) (suc next) defs1 e cores2 d ks2 k2) (sym (ap (λ t. t.next) same)) qs in
        let rest = only-nested (defined def.name ∷ s) (suc m1) defs1 e cores1 cores2 c d ls2 ks2 k1 k2 ps moved in (
          ap (λ t. core_def def t.next t.core ∷ cores1) same ∙ ap (λ all. core_def def m2 b2 ∷ all) rest.0,
          rest.1,
          ap (λ t. t.leaves ++ ls2) same ∙ ap (λ ls. ks1 ++ ls) rest.2,
        )

program_as : List CoreDef → Core → CoreProgram
program_as defs main = record { defs = defs; main = main }

pub one_core : HasOneCore
unfolding program_as
one_core constants program one other leaves others table p q =
    let empty : AreDistinct [] = λ a b name h g. absurd (none-some name h) in
    let same = only-nested constants (dims_of program) table (distinct-after [] (program_events [] program) empty)
    [] 1 program.defs program.main one.defs other.defs one.main other.main leaves others p.next q.next p.nested q.nested in
    (ap (λ defs. program_as defs one.main) same.0 ∙ ap (program_as other.defs) same.1, same.2)
