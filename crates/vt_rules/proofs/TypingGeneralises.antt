use Rattle.std.proofs.Common.{◌≡◌, ℕ, List, [], Some, refl, sym, subst}
use Rattle.vt_lex.specs.declared.span.Span.{Span}
use Rattle.vt_syntax.specs.declared.core_expr.Core.{Core}
use Rattle.vt_syntax.specs.declared.core_expr.Form.{Form, Literal, Name, Const, Hole}
use Rattle.vt_syntax.specs.CoreTrees.{core, fun_of, app_of, let_of, let_rec_of, choice_of, let_rec_form}
use Rattle.vt_type.specs.declared.plain.Plain.{Plain}
use Rattle.vt_type.specs.Plain.{IsWellFormed}
use Rattle.vt_type.specs.Constants.{Constant, ◌⇒◌}
use Rattle.vt_rules.specs.Env.{Env, Entry, Empty, ◌▸◌, Mono, Def, Rec, IsWellFormedEnv}
use Rattle.vt_rules.specs.Typing.{Ty}
use Rattle.vt_rules.specs.Typing as ty
use Rattle.vt_rules.specs.Generalising.{Schemes, Scheme, Single, Poly, Start, ◌▹◌, scheme_at, KeepsSchemes, Keeps, IsInstanceKeeping, Gen, MostGeneral, Most}
use Rattle.vt_rules.specs.Generalising as gen
use Rattle.vt_rules.proofs.Standing.{StandFor, StandsFor, start, more, single, poly_def, poly_rec, scheme_of, keeps_schemes}
use Rattle.vt_rules.proofs.Inversion.{of_known, of_name, Allows, of_fun, of_app, of_let, of_let_rec, of_literal, of_constant, of_hole}

-- What is typed is typed with schemes, where every expression has a most general type.

module _ (K : List Constant) where
  -- a type that the expression of a `let rec` has where its name has it too
  abbrev RecHas : Env → Core → Plain → Type 0
  RecHas env bound type = IsWellFormed type × Ty K (env ▸ Mono type) bound type

  -- and of which each other such type is an instance
  record MostOfRec (env : Env) (bound : Core) (type : Plain) : Type 0 where
    typed : RecHas env bound type
    general : (other : Plain) → RecHas env bound other → IsInstanceKeeping (λ images. Keeps images env) other type

  abbrev Stand : Schemes → Env → Type 0
  Stand = StandFor (MostGeneral K) MostOfRec

  -- a use of a scheme
  use_of : (schemes own : Schemes) (env : Env) (n : ℕ) (at : Span) (distance : ℕ) (general type : Plain) → Stand own env → scheme_at schemes distance ≡ Some (Poly own general)
      → IsInstanceKeeping (λ images. Keeps images env) type general → Gen K schemes (core n at (Name distance)) type
  use_of schemes own env n at distance general type h e i =
      gen.name_poly schemes n at distance own general type e
      (record { images = i.images; well_formed = i.well_formed; same = i.same; keeps = keeps_schemes (MostGeneral K) MostOfRec i.images own env h i.keeps })

  name-gen : (schemes : Schemes) (n : ℕ) (at : Span) (distance : ℕ) (type : Plain) (scheme : Scheme) (entry : Entry)
      → scheme_at schemes distance ≡ Some scheme → StandsFor (MostGeneral K) MostOfRec scheme entry → Allows K entry type → Gen K schemes (core n at (Name distance)) type
  name-gen schemes n at distance type _ _ e (single own) h = subst (Gen K schemes (core n at (Name distance))) (sym h) (gen.name_single schemes n at distance own e)
  name-gen schemes n at distance type _ _ e (poly_def own env bound general s most) h = use_of schemes own env n at distance general type s e (most.general type h)
  name-gen schemes n at distance type _ _ e (poly_rec own env bound general s most) h = use_of schemes own env n at distance general type s e (most.general type h)

  -- `let rec x = e in x`
  abbrev looped : Core → Core
  looped bound = core 0 bound.span (let_rec_form [] bound.span bound (core 0 bound.span (Name 0)))

  -- its types are those of the name
  looped_has : (env : Env) (bound : Core) (type : Plain) → Ty K env (looped bound) type → RecHas env bound type
  looped_has env bound type d =
      let (some, w, f, g) = of_let_rec K env 0 bound.span [] bound.span bound (core 0 bound.span (Name 0)) type d in
      of_known K (env ▸ Rec env bound) 0 bound.span 0 (Rec env bound) type refl g

  has_looped : (env : Env) (bound : Core) (type : Plain) → RecHas env bound type → Ty K env (looped bound) type
  has_looped env bound type h =
      ty.let_rec env 0 bound.span [] bound.span bound (core 0 bound.span (Name 0)) type type h.0 h.1
      (ty.name_rec (env ▸ Rec env bound) 0 bound.span 0 env bound type refl h.0 h.1)

  module _ (most : Most K) where
    most_of_rec : (env : Env) (bound : Core) (type : Plain) → IsWellFormedEnv env → RecHas env bound type → (general : Plain) × MostOfRec env bound general
    most_of_rec env bound type w h =
        let (general, m) = most env (looped bound) type w (has_looped env bound type h) in
        (general, record { typed = looped_has env bound general m.typed; general = λ other k. m.general other (has_looped env bound other k) })

    ty-gen : (schemes : Schemes) (env : Env) (n : ℕ) (at : Span) (form : Form) (type : Plain) → Stand schemes env → IsWellFormedEnv env → Ty K env (core n at form) type → Gen K schemes (core n at form) type
    ty-gen schemes env n at (Literal l) type h w d = subst (Gen K schemes (core n at (Literal l))) (sym (of_literal K env n at l type d)) (gen.literal schemes n at l)
    ty-gen schemes env n at (Name distance) type h w d =
        let (entry, e, allows) = of_name K env n at distance type d in
        let (scheme, f, s) = scheme_of (MostGeneral K) MostOfRec schemes env distance entry h e in
        name-gen schemes n at distance type scheme entry f s allows
    ty-gen schemes env n at (Const id) type h w d = let (closed, has, instance) = of_constant K env n at id type d in gen.constant schemes n at id closed type has instance
    ty-gen schemes env n at Hole type h w d = gen.hole schemes n at type (of_hole K env n at type d)
    ty-gen schemes env n at (fun_of m by body) type h w d =
        let (from, to, v, f, e) = of_fun K env n at (core m by body) type d in
        let g = ty-gen (schemes ▹ Single from) (env ▸ Mono from) m by body to (more schemes env (Single from) (Mono from) h (single from)) (w, v) f in
        subst (Gen K schemes (core n at (fun_of m by body))) (sym e) (gen.fun schemes n at (core m by body) from to v g)
    ty-gen schemes env n at (app_of m by function k on argument) type h w d =
        let (from, f, g) = of_app K env n at (core m by function) (core k on argument) type d in
        gen.app schemes n at (core m by function) (core k on argument) from type (ty-gen schemes env m by function (from ⇒ type) h w f) (ty-gen schemes env k on argument from h w g)
    ty-gen schemes env n at (let_of m by bound k on body) type h w d =
        let (some, f, g) = of_let K env n at (core m by bound) (core k on body) type d in
        let (general, u) = most env (core m by bound) some w f in
        let stands = more schemes env (Poly schemes general) (Def env (core m by bound)) h (poly_def schemes env (core m by bound) general h u) in
        gen.let_in schemes n at (core m by bound) (core k on body) general type
        (ty-gen schemes env m by bound general h w u.typed)
        (ty-gen (schemes ▹ Poly schemes general) (env ▸ Def env (core m by bound)) k on body type stands (w, w) g)
    ty-gen schemes env n at (let_rec_of name name_at m by bound k on body) type h w d =
        let (some, v, f, g) = of_let_rec K env n at name name_at (core m by bound) (core k on body) type d in
        let (general, u) = most_of_rec env (core m by bound) some w (v, f) in
        let stands = more schemes env (Poly schemes general) (Rec env (core m by bound)) h (poly_rec schemes env (core m by bound) general h u) in
        gen.let_rec schemes n at name name_at (core m by bound) (core k on body) general type u.typed.0
        (ty-gen (schemes ▹ Single general) (env ▸ Mono general) m by bound general (more schemes env (Single general) (Mono general) h (single general)) (w, u.typed.0) u.typed.1)
        (ty-gen (schemes ▹ Poly schemes general) (env ▸ Rec env (core m by bound)) k on body type stands (w, w) g)
    ty-gen schemes env n at (choice_of dim m by left k on right) type h w d = absurd (no_choice dim m by left k on right d)
      where
        no_choice : (dim m : ℕ) (by : Span) (left : Form) (k : ℕ) (on : Span) (right : Form) → Ty K env (core n at (choice_of dim m by left k on right)) type → ⊥
        no_choice dim m by left k on right d = elim d [ ]

    pub schemes_of_typed : (e : Core) (type : Plain) → Ty K Empty e type → Gen K Start e type
    schemes_of_typed e type d = ty-gen Start Empty e.node e.span e.form type start tt d
