use Rattle.std.proofs.Common.{◌≡◌, ℕ, suc, Bool, true, false, List, [], ◌∷◌, ◌++◌, ◌||◌, map, slice_get, true≢false, Option, Some, None, refl, ap, sym, if◌then◌else◌}
use Rattle.std.specs.List.{list_any}
use Rattle.std.specs.Str.{bytes_eq}
use Rattle.std.proofs.lemmas.Slice.Eq.{bytes_eq-Decides}
use Rattle.vt_dec.specs.declared.side.Side.{Side}
use Rattle.vt_dec.specs.declared.side.Side.TheVariants.{Left, Right}
use Rattle.vt_lex.specs.declared.span.Span.{Span}
use Rattle.vt_type.specs.Constants.{Constant}
use Rattle.vt_syntax.specs.declared.expr.Expr.{Expr}
use Rattle.vt_syntax.specs.declared.expr.Exprs.{Exprs}
use Rattle.vt_syntax.specs.declared.program.Def.{Def}
use Rattle.vt_syntax.specs.declared.program.Program.{Program}
use Rattle.vt_syntax.specs.declared.core_expr.Core.{Core}
use Rattle.vt_syntax.specs.declared.core_program.CoreDef.{CoreDef}
use Rattle.vt_syntax.specs.declared.core_program.CoreProgram.{CoreProgram}
use Rattle.vt_syntax.specs.declared.leaf.Leaf.{Leaf}
use Rattle.vt_syntax.specs.SurfaceTrees as surface
use Rattle.vt_syntax.specs.SurfaceTrees.{expr}
use Rattle.vt_syntax.specs.Selection.{chosen, selected_expr, selected_exprs, selected_def, selected_program}
use Rattle.vt_scope.specs.declared.scope.Binder.{Binder}
use Rattle.vt_scope.specs.Scopes.{parameter, defined, bound_under}
use Rattle.vt_scope.specs.Faults.{Event, Nameless, Dimension, events_of, item_events, nested_events, program_events, with_dim, dims_after, dims_of}
use Rattle.vt_scope.specs.Cores as cores
use Rattle.vt_scope.specs.Cores.{IsCore, AreItems, AreNested, IsCoreProgram}
use Rattle.vt_scope.proofs.EventLists.{Extends-dims_after, slice_get-Extends}

-- A program in scope stays in scope when a decision selects from it.

-- a name has a number
abbrev pub HasNumber : List (List ℕ) → List ℕ → Type 0
HasNumber names name = (dim : ℕ) × (slice_get names dim ≡ Some name)

-- each dimension that is met has a number
abbrev pub AreKnown : List (List ℕ) → List Event → Type 0
AreKnown names [] = Unit {0}
AreKnown names (Nameless at ∷ events) = AreKnown names events
AreKnown names (Dimension name at ∷ events) = HasNumber names name × AreKnown names events

AreKnown-first : (names : List (List ℕ)) (es fs : List Event) → AreKnown names (es ++ fs) → AreKnown names es
AreKnown-first names [] fs h = tt
AreKnown-first names (Nameless at ∷ es) fs h = AreKnown-first names es fs h
AreKnown-first names (Dimension name at ∷ es) fs h = (h.0, AreKnown-first names es fs h.1)

AreKnown-later : (names : List (List ℕ)) (es fs : List Event) → AreKnown names (es ++ fs) → AreKnown names fs
AreKnown-later names [] fs h = h
AreKnown-later names (Nameless at ∷ es) fs h = AreKnown-later names es fs h
AreKnown-later names (Dimension name at ∷ es) fs h = AreKnown-later names es fs h.1

further : (own name : List ℕ) (names : List (List ℕ)) → HasNumber names name → HasNumber (own ∷ names) name
further own name names h = (suc h.0, h.1)

last-has : (names : List (List ℕ)) (name : List ℕ) → HasNumber (names ++ name ∷ []) name
last-has [] name = (0, refl)
last-has (own ∷ names) name = further own name (names ++ name ∷ []) (last-has names name)

any-has : (names : List (List ℕ)) (name : List ℕ) → list_any (bytes_eq name) names ≡ true → HasNumber names name
any-has [] name h = absurd (true≢false (sym h))
any-has (own ∷ names) name h = by (bytes_eq name own) refl (any-has names name) h
  where
    by : (b : Bool) → bytes_eq name own ≡ b → (list_any (bytes_eq name) names ≡ true → HasNumber names name)
        → (b || list_any (bytes_eq name) names) ≡ true → HasNumber (own ∷ names) name
    by true e known g = (0, ap Some (sym ((bytes_eq-Decides name own).0 e)))
    by false e known g = further own name names (known g)

with_dim-has : (names : List (List ℕ)) (name : List ℕ) → HasNumber (with_dim names name) name
with_dim-has names name = by (list_any (bytes_eq name) names) refl
  where
    by : (b : Bool) → list_any (bytes_eq name) names ≡ b → HasNumber (if b then names else (names ++ name ∷ [])) name
    by true e = any-has names name e
    by false e = last-has names name

-- the dimensions that were met are known afterwards
known-after : (names : List (List ℕ)) (es : List Event) → AreKnown (dims_after names es) es
known-after names [] = tt
known-after names (Nameless at ∷ es) = known-after names es
known-after names (Dimension name at ∷ es) =
    let own = with_dim-has names name in
    ((own.0, slice_get-Extends (with_dim names name) (dims_after (with_dim names name) es) own.0 name (Extends-dims_after (with_dim names name) es) own.1), known-after (with_dim names name) es)

module _ (constants : List Constant) (dims others : List (List ℕ)) (taken : List ℕ → Option Side) where
  -- an expression that has a core from a number on
  abbrev Resolves : List Binder → ℕ → Expr → Type 0
  Resolves s n e = (c : Core) × (ls : List Leaf) × (m : ℕ) × IsCore constants others s n e c ls m

  abbrev ResolveItems : List Binder → Span → Span → ℕ → Exprs → Type 0
  ResolveItems s whole here n es = (c : Core) × (ls : List Leaf) × (m : ℕ) × AreItems constants others s whole here n es c ls m

  abbrev ResolveNested : List Binder → ℕ → List Def → Expr → Type 0
  ResolveNested s n defs e = (all : List CoreDef) × (c : Core) × (ls : List Leaf) × (m : ℕ) × AreNested constants others s n defs e all c ls m

  abbrev Known : List Binder → Expr → Type 0
  Known s e = AreKnown others (events_of [] s e)

  -- one of two, or a choice of both
  choice-stays : (s : List Binder) (at : Span) (name : List ℕ) (name_at : Span) (e f : Expr)
      → ((n : ℕ) → Known s e → Resolves s n e) → ((n : ℕ) → Known s f → Resolves s n f)
      → (side : Option Side) (n : ℕ) → Known s (chosen side e f (expr at (surface.choice_form name name_at e f)))
      → Resolves s n (chosen side e f (expr at (surface.choice_form name name_at e f)))
  choice-stays s at name name_at e f p q (Some Left) n h = p n h
  choice-stays s at name name_at e f p q (Some Right) n h = q n h
  choice-stays s at name name_at e f p q None n h =
      let (x, ls, i, one) = p n (AreKnown-first others (events_of [] s e) (events_of [] s f) h.1) in
      let (y, ks, k, two) = q i (AreKnown-later others (events_of [] s e) (events_of [] s f) h.1) in
      (_, _, _, cores.choice s n i k at name h.0.0 name_at e f x y ls ks h.0.1 one two)

  mutual
    stays : (s : List Binder) (n : ℕ) (e : Expr) (c : Core) (ls : List Leaf) (m : ℕ) → IsCore constants dims s n e c ls m
        → (i : ℕ) → Known s (selected_expr taken e.span e.form) → Resolves s i (selected_expr taken e.span e.form)
    stays _ _ _ _ _ _ (cores.number s n at value) i h = (_, _, _, cores.number s i at value)
    stays _ _ _ _ _ _ (cores.quoted s n at) i h = (_, _, _, cores.quoted s i at)
    stays _ _ _ _ _ _ (cores.truth s n at value) i h = (_, _, _, cores.truth s i at value)
    stays _ _ _ _ _ _ (cores.bound s n at name binder is) i h = (_, _, _, cores.bound s i at name binder is)
    stays _ _ _ _ _ _ (cores.named s n at name id none has) i h = (_, _, _, cores.named s i at name id none has)
    stays _ _ _ _ _ _ (cores.hole s n at) i h = (_, _, _, cores.hole s i at)
    stays _ _ _ _ _ _ (cores.fun s n m at name name_at f c ks p) i h =
        let (x, ls, k, one) = stays (parameter name ∷ s) n f c ks m p i h in
        (_, _, _, cores.fun s i k at name name_at (selected_expr taken f.span f.form) x ls one)
    stays _ _ _ _ _ _ (cores.let_in s n m k at recursive name name_at f g c d ks js p q) i h =
        let F = selected_expr taken f.span f.form in
        let G = selected_expr taken g.span g.form in
        let (x, ls, j, one) = stays (bound_under recursive name s) n f c ks m p i (AreKnown-first others (events_of [] (bound_under recursive name s) F) (events_of [] (defined name ∷ s) G) h) in
        let (y, ms, l, two) = stays (defined name ∷ s) (suc m) g d js k q (suc j) (AreKnown-later others (events_of [] (bound_under recursive name s) F) (events_of [] (defined name ∷ s) G) h) in
        (_, _, _, cores.let_in s i j l at recursive name name_at F G x y ls ms one two)
    stays _ _ _ _ _ _ (cores.if_else s n m1 m2 m3 at f g o c d l ks js is p q r) i h =
        let F = selected_expr taken f.span f.form in
        let G = selected_expr taken g.span g.form in
        let O = selected_expr taken o.span o.form in
        let both = AreKnown-first others (events_of [] s F ++ events_of [] s G) (events_of [] s O) h in
        let (x, ls, j1, one) = stays s (suc n) f c ks m1 p (suc i) (AreKnown-first others (events_of [] s F) (events_of [] s G) both) in
        let (y, ms, j2, two) = stays s (suc m1) g d js m2 q (suc j1) (AreKnown-later others (events_of [] s F) (events_of [] s G) both) in
        let (z, ns, j3, three) = stays s (suc m2) o l is m3 r (suc j2) (AreKnown-later others (events_of [] s F ++ events_of [] s G) (events_of [] s O) h) in
        (_, _, _, cores.if_else s i j1 j2 j3 at F G O x y z ls ms ns one two three)
    stays _ _ _ _ _ _ (cores.match_list s n m1 m2 m3 at first first_at rest rest_at f g o c d l ks js is p q r) i h =
        let F = selected_expr taken f.span f.form in
        let G = selected_expr taken g.span g.form in
        let O = selected_expr taken o.span o.form in
        let inner = parameter rest ∷ parameter first ∷ s in
        let both = AreKnown-first others (events_of [] s F ++ events_of [] s G) (events_of [] inner O) h in
        let (x, ls, j1, one) = stays s (suc n) f c ks m1 p (suc i) (AreKnown-first others (events_of [] s F) (events_of [] s G) both) in
        let (y, ms, j2, two) = stays s (suc m1) g d js m2 q (suc j1) (AreKnown-later others (events_of [] s F) (events_of [] s G) both) in
        let (z, ns, j3, three) = stays inner (suc m2) o l is m3 r (suc j2) (AreKnown-later others (events_of [] s F ++ events_of [] s G) (events_of [] inner O) h) in
        (_, _, _, cores.match_list s i j1 j2 j3 at first first_at rest rest_at F G O x y z ls ms ns one two three)
    stays _ _ _ _ _ _ (cores.operation s n m1 m2 at op op_at f g c d ks js p q) i h =
        let F = selected_expr taken f.span f.form in
        let G = selected_expr taken g.span g.form in
        let (x, ls, j1, one) = stays s (suc n) f c ks m1 p (suc i) (AreKnown-first others (events_of [] s F) (events_of [] s G) h) in
        let (y, ms, j2, two) = stays s (suc m1) g d js m2 q (suc j1) (AreKnown-later others (events_of [] s F) (events_of [] s G) h) in
        (_, _, _, cores.operation s i j1 j2 at op op_at F G x y ls ms one two)
    stays _ _ _ _ _ _ (cores.apply s n m1 m2 at f g c d ks js p q) i h =
        let F = selected_expr taken f.span f.form in
        let G = selected_expr taken g.span g.form in
        let (x, ls, j1, one) = stays s n f c ks m1 p i (AreKnown-first others (events_of [] s F) (events_of [] s G) h) in
        let (y, ms, j2, two) = stays s m1 g d js m2 q j1 (AreKnown-later others (events_of [] s F) (events_of [] s G) h) in
        (_, _, _, cores.apply s i j1 j2 at F G x y ls ms one two)
    stays _ _ _ _ _ _ (cores.pair s n m1 m2 at f g c d ks js p q) i h =
        let F = selected_expr taken f.span f.form in
        let G = selected_expr taken g.span g.form in
        let (x, ls, j1, one) = stays s (suc n) f c ks m1 p (suc i) (AreKnown-first others (events_of [] s F) (events_of [] s G) h) in
        let (y, ms, j2, two) = stays s (suc m1) g d js m2 q (suc j1) (AreKnown-later others (events_of [] s F) (events_of [] s G) h) in
        (_, _, _, cores.pair s i j1 j2 at F G x y ls ms one two)
    stays _ _ _ _ _ _ (cores.list s n m at items c ks p) i h =
        let (x, ls, k, one) = items-stay s at at n items c ks m p at i h in
        (_, _, _, cores.list s i k at (selected_exprs taken items) x ls one)
    stays _ _ _ _ _ _ (cores.choice s n m1 m2 at name dim name_at f g c d ks js has p q) i h =
        choice-stays s at name name_at (selected_expr taken f.span f.form) (selected_expr taken g.span g.form)
        (λ k known. stays s n f c ks m1 p k known) (λ k known. stays s m1 g d js m2 q k known) (taken name) i h

    items-stay : (s : List Binder) (whole here : Span) (n : ℕ) (es : Exprs) (c : Core) (ls : List Leaf) (m : ℕ) → AreItems constants dims s whole here n es c ls m
        → (there : Span) (i : ℕ) → AreKnown others (item_events [] s (selected_exprs taken es)) → ResolveItems s whole there i (selected_exprs taken es)
    items-stay _ _ _ _ _ _ _ _ (cores.none s whole here n) there i h = (_, _, _, cores.none s whole there i)
    items-stay _ _ _ _ _ _ _ _ (cores.more s whole here n m k f fs c d ks js p q) there i h =
        let F = selected_expr taken f.span f.form in
        let FS = selected_exprs taken fs in
        let (x, ls, j1, one) = stays s (suc n) f c ks m p (suc i) (AreKnown-first others (events_of [] s F) (item_events [] s FS) h) in
        let (y, ms, j2, two) = items-stay s whole (cores.left_span whole fs) (suc m) fs d js k q (cores.left_span whole FS) (suc j1) (AreKnown-later others (events_of [] s F) (item_events [] s FS) h) in
        (_, _, _, cores.more s whole there i j1 j2 F FS x y ls ms one two)

  nested-stay : (s : List Binder) (n : ℕ) (defs : List Def) (e : Expr) (all : List CoreDef) (main : Core) (ls : List Leaf) (m : ℕ)
      → AreNested constants dims s n defs e all main ls m
      → (i : ℕ) → AreKnown others (nested_events [] s (map (selected_def taken) defs) (selected_expr taken e.span e.form))
      → ResolveNested s i (map (selected_def taken) defs) (selected_expr taken e.span e.form)
  nested-stay _ _ _ _ _ _ _ _ (cores.main s n m e c ks p) i h =
      let (x, ls, k, one) = stays s n e c ks m p i h in
      (_, _, _, _, cores.main s i k (selected_expr taken e.span e.form) x ls one)
  nested-stay _ _ _ _ _ _ _ _ (cores.def s n m k def defs e c bodies main ks js p q) i h =
      let own = selected_def taken def in
      let rest = map (selected_def taken) defs in
      let E = selected_expr taken e.span e.form in
      let (x, ls, j, one) = stays (bound_under def.recursive def.name s) n def.body c ks m p i (AreKnown-first others (events_of [] (bound_under def.recursive def.name s) own.body) (nested_events [] (defined def.name ∷ s) rest E) h) in
      let (all, y, ms, l, two) = nested-stay (defined def.name ∷ s) (suc m) defs e bodies main js k q (suc j) (AreKnown-later others (events_of [] (bound_under def.recursive def.name s) own.body) (nested_events [] (defined def.name ∷ s) rest E) h) in
      (_, _, _, _, cores.def s i j l own rest E x all y ls ms one two)

-- the core of what is selected
pub stays-program : (constants : List Constant) (taken : List ℕ → Option Side) (program : Program) (core : CoreProgram) (leaves : List Leaf)
    → IsCoreProgram constants (dims_of program) program core leaves
    → (selected : CoreProgram) × (others : List Leaf) × IsCoreProgram constants (dims_of (selected_program taken program)) (selected_program taken program) selected others
stays-program constants taken program core leaves is =
    let dims = dims_of (selected_program taken program) in
    let (all, c, ls, m, nested) =
    nested-stay constants (dims_of program) dims taken [] 1 program.defs program.main core.defs core.main leaves is.next is.nested 1 (known-after [] (program_events [] (selected_program taken program))) in
    (record { defs = all; main = c }, ls, record { next = m; nested = nested })
