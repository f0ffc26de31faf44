use Rattle.std.proofs.Common.{◌≡◌, ℕ, zero, suc, Bool, true, false, List, [], ◌∷◌, map, Option, Some, None, unwrap_or, refl, ap, sym, subst, ◌∙◌, if◌then◌else◌, arith}
use Rattle.std.specs.Str.{bytes_eq}
use Rattle.std.proofs.lemmas.Option.{none-some, same_Some}
use Rattle.std.proofs.lemmas.Slice.Eq.{bytes_eq-Decides}
use Rattle.vt_dec.specs.declared.side.Side.{Side}
use Rattle.vt_dec.specs.declared.side.Side.TheVariants.{Left, Right}
use Rattle.vt_lex.specs.declared.span.Span.{Span}
use Rattle.vt_type.specs.Constants.{Constant, IsTable, HasName}
use Rattle.vt_syntax.specs.declared.expr.Expr.{Expr}
use Rattle.vt_syntax.specs.declared.expr.Exprs.{Exprs, Nil}
use Rattle.vt_syntax.specs.declared.expr.ExprForm.{ExprForm}
use Rattle.vt_syntax.specs.declared.expr.ExprForm as form
use Rattle.vt_syntax.specs.declared.program.Def.{Def}
use Rattle.vt_syntax.specs.declared.core_expr.Core.{Core}
use Rattle.vt_syntax.specs.declared.core_expr.Form.{Form, Literal, Name, Const, Hole}
use Rattle.vt_syntax.specs.declared.core_expr.Lit.TheVariants as lit
use Rattle.vt_syntax.specs.declared.core_program.CoreDef.{CoreDef}
use Rattle.vt_syntax.specs.declared.core_program.CoreProgram.{CoreProgram}
use Rattle.vt_syntax.specs.declared.program.Program.{Program}
use Rattle.vt_syntax.specs.declared.leaf.Leaf.{Leaf}
use Rattle.vt_syntax.specs.SurfaceTrees as surface
use Rattle.vt_syntax.specs.SurfaceTrees.{expr, exprs_of}
use Rattle.vt_syntax.specs.CoreTrees.{fun_of, app_of, let_of, let_rec_of, choice_of, core, choice_form}
use Rattle.vt_syntax.specs.Selection.{chosen, selected_expr, selected_exprs, selected_def, selected_program, selected_form, selected_core, selected_core_def, selected_core_program}
use Rattle.vt_scope.specs.declared.scope.Binder.{Binder}
use Rattle.vt_scope.specs.declared.scope.Found.{Found}
use Rattle.vt_scope.specs.Scopes.{parameter, defined, bound_under, found, is_written}
use Rattle.vt_scope.specs.Faults.{dims_of}
use Rattle.vt_scope.specs.Cores as cores
use Rattle.vt_scope.specs.Cores.{IsCore, AreItems, AreNested, IsCoreProgram, op_id}
use Rattle.vt_scope.specs.Erased.{Erased, Literally, Named, Constantly, Hollow, Function, Applied, Bound, Looped, Chosen, dim_name, erased, erased_def, ErasedDef, ErasedProgram, erased_program, SelectionCommutes}
use Rattle.vt_scope.proofs.Staying.{stays-program}

-- A core with its numbers and its spans set aside can be had from the program at once.

-- the number of a constant that is written so
abbrev pub id_of : List Constant → List ℕ → ℕ
id_of [] name = 0
id_of (constant ∷ constants) name = if is_written name constant.name then 0 else suc (id_of constants name)

-- what a name stands for
abbrev seen_name : List Constant → List ℕ → Option Found → Erased
seen_name constants name (Some binder) = Named binder.distance
seen_name constants name None = Constantly (id_of constants name)

-- a `let` or a `let rec`
abbrev seen_let : Bool → List ℕ → Erased → Erased → Erased
seen_let true name bound body = Looped name bound body
seen_let false name bound body = Bound bound body

abbrev mutual
  seen : List Constant → List Binder → ExprForm → Erased
  seen constants s (form.Number value) = Literally (lit.Number value)
  seen constants s form.Quoted = Literally lit.Quoted
  seen constants s (form.Truth value) = Literally (lit.Truth value)
  seen constants s (form.Name name) = seen_name constants name (found s name)
  seen constants s form.Hole = Hollow
  seen constants s (surface.fun_of name name_at by body) = Function (seen constants (parameter name ∷ s) body)
  seen constants s (surface.let_of recursive name name_at by bound to body) =
      seen_let recursive name (seen constants (bound_under recursive name s) bound) (seen constants (defined name ∷ s) body)
  seen constants s (surface.if_of by condition to met on unmet) =
      Applied (Applied (Applied (Constantly 16) (seen constants s condition)) (seen constants s met)) (seen constants s unmet)
  seen constants s (surface.match_of by list to empty first first_at rest rest_at on cell) =
      Applied (Applied (Applied (Constantly 17) (seen constants s list)) (seen constants s empty)) (Function (Function (seen constants (parameter rest ∷ parameter first ∷ s) cell)))
  seen constants s (surface.op_of op op_at by left to right) = Applied (Applied (Constantly (op_id op)) (seen constants s left)) (seen constants s right)
  seen constants s (surface.apply_of by function to argument) = Applied (seen constants s function) (seen constants s argument)
  seen constants s (surface.pair_of by left to right) = Applied (Applied (Constantly 13) (seen constants s left)) (seen constants s right)
  seen constants s (form.List items) = seen_items constants s items
  seen constants s (surface.choice_of dim dim_at by left to right) = Chosen dim (seen constants s left) (seen constants s right)

  seen_items : List Constant → List Binder → Exprs → Erased
  seen_items constants s Nil = Constantly 14
  seen_items constants s (exprs_of at first rest) = Applied (Applied (Constantly 15) (seen constants s first)) (seen_items constants s rest)

-- the constant of a name is the first that is written so
pub id_of-is : (constants : List Constant) (id : ℕ) (name : List ℕ)
    → ((other : ℕ) → HasName constants other name → id ≡ other) → HasName constants id name → id_of constants name ≡ id
id_of-is [] id name only has = absurd (none-some (Some name) has)
id_of-is (constant ∷ constants) zero name only has =
    let own : is_written name constant.name ≡ true = subst (λ n. is_written name n ≡ true) (sym (same_Some constant.name (Some name) has)) ((bytes_eq-Decides name name).1 refl) in
    ap (λ b. if b then 0 else suc (id_of constants name)) own
id_of-is (constant ∷ constants) (suc id) name only has =
    by constant.name refl (id_of-is constants id name (λ other h. let e = only (suc other) h in omega (arith, e)) has)
  where
    by : (own : Option (List ℕ)) → constant.name ≡ own → id_of constants name ≡ id → (if is_written name constant.name then 0 else suc (id_of constants name)) ≡ suc id
    by None e rest = rw e (ap suc rest)
    by (Some text) e rest = rw e (as_test (bytes_eq text name) refl)
      where
        as_test : (b : Bool) → bytes_eq text name ≡ b → (if bytes_eq text name then 0 else suc (id_of constants name)) ≡ suc id
        as_test false f = rw f (ap suc rest)
        as_test true f =
            let first : HasName (constant ∷ constants) 0 name = ap Some (e ∙ ap Some ((bytes_eq-Decides text name).0 f)) in
            let equal : suc id ≡ 0 = only 0 first in
            absurd (omega (arith, equal))

same_applied : (a b c d : Erased) → a ≡ b → c ≡ d → Applied a c ≡ Applied b d
same_applied a b c d e f = ap (λ x. Applied x c) e ∙ ap (Applied b) f

same_bound : (a b c d : Erased) → a ≡ b → c ≡ d → Bound a c ≡ Bound b d
same_bound a b c d e f = ap (λ x. Bound x c) e ∙ ap (Bound b) f

same_looped : (name : List ℕ) (a b c d : Erased) → a ≡ b → c ≡ d → Looped name a c ≡ Looped name b d
same_looped name a b c d e f = ap (λ x. Looped name x c) e ∙ ap (Looped name b) f

same_chosen : (one other : List ℕ) (a b c d : Erased) → one ≡ other → a ≡ b → c ≡ d → Chosen one a c ≡ Chosen other b d
same_chosen one other a b c d n e f = ap (λ x. Chosen x a c) n ∙ ap (λ x. Chosen other x c) e ∙ ap (Chosen other b) f

seen_let-erased : (dims : List (List ℕ)) (recursive : Bool) (name : List ℕ) (name_at : Span) (c d : Core) → erased dims (cores.bound_form recursive name name_at c d) ≡ seen_let recursive name (erased dims c.form) (erased dims d.form)
seen_let-erased dims true name name_at c d = refl
seen_let-erased dims false name name_at c d = refl

module _ (constants : List Constant) (table : IsTable constants) (dims : List (List ℕ)) where
  mutual
    pub erased-core : (s : List Binder) (n : ℕ) (e : Expr) (c : Core) (ls : List Leaf) (m : ℕ) → IsCore constants dims s n e c ls m → erased dims c.form ≡ seen constants s e.form
    erased-core _ _ _ _ _ _ (cores.number s n at value) = refl
    erased-core _ _ _ _ _ _ (cores.quoted s n at) = refl
    erased-core _ _ _ _ _ _ (cores.truth s n at value) = refl
    erased-core _ _ _ _ _ _ (cores.bound s n at name binder is) = ap (seen_name constants name) (sym is)
    erased-core _ _ _ _ _ _ (cores.named s n at name id none has) =
        ap Constantly (sym (id_of-is constants id name (λ other h. table.names_differ id other name has h) has)) ∙ ap (seen_name constants name) (sym none)
    erased-core _ _ _ _ _ _ (cores.hole s n at) = refl
    erased-core _ _ _ _ _ _ (cores.fun s n i at name name_at f d ks p) = ap Function (erased-core (parameter name ∷ s) n f d ks i p)
    erased-core _ _ _ _ _ _ (cores.let_in s n i k at recursive name name_at f g d h ks js p q) =
        seen_let-erased dims recursive name name_at d h
        ∙ ap (λ x. seen_let recursive name x (erased dims h.form)) (erased-core (bound_under recursive name s) n f d ks i p)
        ∙ ap (λ x. seen_let recursive name (seen constants (bound_under recursive name s) f.form) x) (erased-core (defined name ∷ s) (suc i) g h js k q)
    erased-core _ _ _ _ _ _ (cores.if_else s n i j k at f g h x y z ks js is p q r) =
        same_applied _ _ _ _ (same_applied _ _ _ _ (same_applied _ _ _ _ refl (erased-core s (suc n) f x ks i p)) (erased-core s (suc i) g y js j q)) (erased-core s (suc j) h z is k r)
    erased-core _ _ _ _ _ _ (cores.match_list s n i j k at first first_at rest rest_at f g h x y z ks js is p q r) =
        same_applied _ _ _ _ (same_applied _ _ _ _ (same_applied _ _ _ _ refl (erased-core s (suc n) f x ks i p)) (erased-core s (suc i) g y js j q))
        (ap (λ u. Function (Function u)) (erased-core (parameter rest ∷ parameter first ∷ s) (suc j) h z is k r))
    erased-core _ _ _ _ _ _ (cores.operation s n i k at op op_at f g x y ks js p q) =
        same_applied _ _ _ _ (same_applied _ _ _ _ refl (erased-core s (suc n) f x ks i p)) (erased-core s (suc i) g y js k q)
    erased-core _ _ _ _ _ _ (cores.apply s n i k at f g x y ks js p q) =
        same_applied _ _ _ _ (erased-core s n f x ks i p) (erased-core s i g y js k q)
    erased-core _ _ _ _ _ _ (cores.pair s n i k at f g x y ks js p q) =
        same_applied _ _ _ _ (same_applied _ _ _ _ refl (erased-core s (suc n) f x ks i p)) (erased-core s (suc i) g y js k q)
    erased-core _ _ _ _ _ _ (cores.list s n k at items d ks p) = erased-items s at at n items d ks k p
    erased-core _ _ _ _ _ _ (cores.choice s n i k at name dim name_at f g x y ks js has p q) =
        same_chosen _ _ _ _ _ _ (ap (λ o. unwrap_or o []) has) (erased-core s n f x ks i p) (erased-core s i g y js k q)

    erased-items : (s : List Binder) (whole here : Span) (n : ℕ) (es : Exprs) (c : Core) (ls : List Leaf) (m : ℕ) → AreItems constants dims s whole here n es c ls m → erased dims c.form ≡ seen_items constants s es
    erased-items _ _ _ _ _ _ _ _ (cores.none s whole here n) = refl
    erased-items _ _ _ _ _ _ _ _ (cores.more s whole here n i k f fs x y ks js p q) =
        same_applied _ _ _ _ (same_applied _ _ _ _ refl (erased-core s (suc n) f x ks i p)) (erased-items s whole (cores.left_span whole fs) (suc i) fs y js k q)

-- what is selected of a core without numbers and spans
abbrev selected_erased : (List ℕ → Option Side) → Erased → Erased
selected_erased taken (Literally literal) = Literally literal
selected_erased taken (Named distance) = Named distance
selected_erased taken (Constantly id) = Constantly id
selected_erased taken Hollow = Hollow
selected_erased taken (Function body) = Function (selected_erased taken body)
selected_erased taken (Applied function argument) = Applied (selected_erased taken function) (selected_erased taken argument)
selected_erased taken (Bound bound body) = Bound (selected_erased taken bound) (selected_erased taken body)
selected_erased taken (Looped name bound body) = Looped name (selected_erased taken bound) (selected_erased taken body)
selected_erased taken (Chosen dim left right) =
    chosen (taken dim) (selected_erased taken left) (selected_erased taken right) (Chosen dim (selected_erased taken left) (selected_erased taken right))

-- what is made of what is chosen, is chosen of what is made
chosen-map : {A B : Type 0} (f : A → B) (side : Option Side) (left right neither : A) → f (chosen side left right neither) ≡ chosen side (f left) (f right) (f neither)
chosen-map f (Some Left) left right neither = refl
chosen-map f (Some Right) left right neither = refl
chosen-map f None left right neither = refl

abbrev made_def : List ℕ → Bool → Erased → ErasedDef
made_def name recursive body = record { name = name; recursive = recursive; body = body }

cons_same : {A B : Type 0} (f : A → B) (x y : A) (xs ys : List B) → x ≡ y → xs ≡ ys → f x ∷ xs ≡ f y ∷ ys
cons_same f x y xs ys e h = ap (λ a. f a ∷ xs) e ∙ ap (λ all. f y ∷ all) h

module _ (taken : List ℕ → Option Side) where
  -- selected from a core
  module _ (dims : List (List ℕ)) where
    abbrev by_name : ℕ → Option Side
    by_name dim = taken (dim_name dims dim)

    erased-selected : (n : ℕ) (at : Span) (f : Form) → erased dims (selected_form by_name n at f).form ≡ selected_erased taken (erased dims f)
    erased-selected n at (Literal literal) = refl
    erased-selected n at (Name distance) = refl
    erased-selected n at (Const id) = refl
    erased-selected n at Hole = refl
    erased-selected n at (fun_of m by body) = ap Function (erased-selected m by body)
    erased-selected n at (app_of m by function k to argument) = same_applied _ _ _ _ (erased-selected m by function) (erased-selected k to argument)
    erased-selected n at (let_of m by bound k to body) = same_bound _ _ _ _ (erased-selected m by bound) (erased-selected k to body)
    erased-selected n at (let_rec_of name name_at m by bound k to body) = same_looped name _ _ _ _ (erased-selected m by bound) (erased-selected k to body)
    erased-selected n at (choice_of dim m by left k to right) =
        let one = selected_form by_name m by left in
        let two = selected_form by_name k to right in
        chosen-map (λ c. erased dims c.form) (by_name dim) one two (core n at (choice_form dim one two))
        ∙ rw (erased-selected m by left, erased-selected k to right) refl

  -- selected from a program
  module _ (constants : List Constant) where
    seen_let-selected : (recursive : Bool) (name : List ℕ) (bound body : Erased)
        → seen_let recursive name (selected_erased taken bound) (selected_erased taken body) ≡ selected_erased taken (seen_let recursive name bound body)
    seen_let-selected true name bound body = refl
    seen_let-selected false name bound body = refl

    seen_name-selected : (name : List ℕ) (binder : Option Found) → seen_name constants name binder ≡ selected_erased taken (seen_name constants name binder)
    seen_name-selected name (Some binder) = refl
    seen_name-selected name None = refl

    mutual
      seen-selected : (s : List Binder) (at : Span) (f : ExprForm) → seen constants s (selected_expr taken at f).form ≡ selected_erased taken (seen constants s f)
      seen-selected s at (form.Number value) = refl
      seen-selected s at form.Quoted = refl
      seen-selected s at (form.Truth value) = refl
      seen-selected s at (form.Name name) = seen_name-selected name (found s name)
      seen-selected s at form.Hole = refl
      seen-selected s at (surface.fun_of name name_at by body) = ap Function (seen-selected (parameter name ∷ s) by body)
      seen-selected s at (surface.let_of recursive name name_at by bound to body) =
          ap (λ x. seen_let recursive name x (seen constants (defined name ∷ s) (selected_expr taken to body).form)) (seen-selected (bound_under recursive name s) by bound)
          ∙ ap (λ x. seen_let recursive name (selected_erased taken (seen constants (bound_under recursive name s) bound)) x) (seen-selected (defined name ∷ s) to body)
          ∙ seen_let-selected recursive name (seen constants (bound_under recursive name s) bound) (seen constants (defined name ∷ s) body)
      seen-selected s at (surface.if_of by condition to met on unmet) =
          same_applied _ _ _ _ (same_applied _ _ _ _ (same_applied _ _ _ _ refl (seen-selected s by condition)) (seen-selected s to met)) (seen-selected s on unmet)
      seen-selected s at (surface.match_of by list to empty first first_at rest rest_at on cell) =
          same_applied _ _ _ _ (same_applied _ _ _ _ (same_applied _ _ _ _ refl (seen-selected s by list)) (seen-selected s to empty))
          (ap (λ u. Function (Function u)) (seen-selected (parameter rest ∷ parameter first ∷ s) on cell))
      seen-selected s at (surface.op_of op op_at by left to right) = same_applied _ _ _ _ (same_applied _ _ _ _ refl (seen-selected s by left)) (seen-selected s to right)
      seen-selected s at (surface.apply_of by function to argument) = same_applied _ _ _ _ (seen-selected s by function) (seen-selected s to argument)
      seen-selected s at (surface.pair_of by left to right) = same_applied _ _ _ _ (same_applied _ _ _ _ refl (seen-selected s by left)) (seen-selected s to right)
      seen-selected s at (form.List items) = seen-items-selected s items
      seen-selected s at (surface.choice_of dim dim_at by left to right) =
          let one = selected_expr taken by left in
          let two = selected_expr taken to right in
          chosen-map (λ e. seen constants s e.form) (taken dim) one two (expr at (surface.choice_form dim dim_at one two))
          ∙ rw (seen-selected s by left, seen-selected s to right) refl

      seen-items-selected : (s : List Binder) (items : Exprs) → seen_items constants s (selected_exprs taken items) ≡ selected_erased taken (seen_items constants s items)
      seen-items-selected s Nil = refl
      seen-items-selected s (exprs_of at first rest) = same_applied _ _ _ _ (same_applied _ _ _ _ refl (seen-selected s at first)) (seen-items-selected s rest)

    module _ (table : IsTable constants) (dims others : List (List ℕ)) where
      core-commutes : (s : List Binder) (n i : ℕ) (e : Expr) (c d : Core) (ls ks : List Leaf) (m k : ℕ)
          → IsCore constants dims s n e c ls m → IsCore constants others s i (selected_expr taken e.span e.form) d ks k
          → erased dims (selected_core (by_name dims) c).form ≡ erased others d.form
      core-commutes s n i e c d ls ks m k p q =
          erased-selected dims c.node c.span c.form
          ∙ ap (selected_erased taken) (erased-core constants table dims s n e c ls m p)
          ∙ sym (seen-selected s e.span e.form)
          ∙ sym (erased-core constants table others s i (selected_expr taken e.span e.form) d ks k q)

      nested-commutes : (s : List Binder) (n i : ℕ) (defs : List Def) (e : Expr) (all selected : List CoreDef) (c d : Core) (ls ks : List Leaf) (m k : ℕ)
          → AreNested constants dims s n defs e all c ls m
          → AreNested constants others s i (map (selected_def taken) defs) (selected_expr taken e.span e.form) selected d ks k
          → (map (erased_def dims) (map (selected_core_def (by_name dims)) all) ≡ map (erased_def others) selected)
          × (erased dims (selected_core (by_name dims) c).form ≡ erased others d.form)
      nested-commutes _ _ _ _ _ _ _ _ _ _ _ _ _ (cores.main s n m e c ls p) (cores.main t i k f d ks q) =
          (refl, core-commutes s n i e c d ls ks m k p q)
      nested-commutes _ _ _ _ _ _ _ _ _ _ _ _ _
          (cores.def s n m1 m2 def defs1 e b1 cores1 c ls1 ls2 p ps) (cores.def t i k1 k2 own defs2 f b2 cores2 d ks1 ks2 q qs) =
          let first = core-commutes (bound_under def.recursive def.name s) n i def.body b1 b2 ls1 ks1 m1 k1 p q in
          let rest = nested-commutes (defined def.name ∷ s) (suc m1) (suc k1) defs1 e cores1 cores2 c d ls2 ks2 m2 k2 ps qs in
          (cons_same (made_def def.name def.recursive) _ _ _ _ first rest.0, rest.1)

made_program : List ErasedDef → Erased → ErasedProgram
made_program defs main = record { defs = defs; main = main }

agrees : (constants : List Constant) (taken : List ℕ → Option Side) (program : Program) (core selected : CoreProgram) (leaves others : List Leaf)
    → IsTable constants
    → IsCoreProgram constants (dims_of program) program core leaves
    → IsCoreProgram constants (dims_of (selected_program taken program)) (selected_program taken program) selected others
    → erased_program (dims_of program) (selected_core_program (λ dim. taken (dim_name (dims_of program) dim)) core)
    ≡ erased_program (dims_of (selected_program taken program)) selected
unfolding made_program
agrees constants taken program core selected leaves others table p q =
    let both = nested-commutes taken constants table (dims_of program) (dims_of (selected_program taken program)) [] 1 1 program.defs program.main core.defs selected.defs core.main selected.main leaves others p.next q.next p.nested q.nested in
    ap (λ defs. made_program defs (erased (dims_of program) (selected_core (by_name taken (dims_of program)) core.main).form)) both.0
    ∙ ap (made_program (map (erased_def (dims_of (selected_program taken program))) selected.defs)) both.1

pub commutes : SelectionCommutes
commutes constants taken program core leaves table is =
    let (selected, others, stays) = stays-program constants taken program core leaves is in
    (selected, others, stays, agrees constants taken program core selected leaves others table is stays)
