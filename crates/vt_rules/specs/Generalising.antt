use Rattle.std.specs.Prelude.{◌≡◌, ℕ, zero, suc, List, Option, Some, None}
use Rattle.vt_lex.specs.declared.span.Span.{Span}
use Rattle.vt_syntax.specs.declared.core_expr.Core.{Core}
use Rattle.vt_syntax.specs.declared.core_expr.Form.{Literal, Name, Const, Hole}
use Rattle.vt_syntax.specs.declared.core_expr.Lit.{Lit}
use Rattle.vt_syntax.specs.CoreTrees.{core, fun_form, app_form, let_form, let_rec_form}
use Rattle.vt_type.specs.declared.plain.Plain.{Plain}
use Rattle.vt_type.specs.Plain.{IsWellFormed, IsInstance, substituted}
use Rattle.vt_type.specs.Constants.{Constant, HasClosed, ◌⇒◌}
use Rattle.vt_rules.specs.Env.{Env, Entry, Empty, ◌▸◌, Mono, Def, Rec, IsWellFormedEnv}
use Rattle.vt_rules.specs.Typing.{Ty, literal_type}

-- Typing with schemes, after Damas and Milner (1982): `let` chooses one type of the bound expression, and
-- a use of the name takes an instance of it.

-- What is known of a name: one type, or one type of its expression together with the environment in
-- which the name was bound. The variables of that environment are not generalised.
mutual
  pub data Scheme : Type 0 where
    Single : Plain → Scheme
    Poly : Schemes → Plain → Scheme

  pub data Schemes : Type 0 where
    Start : Schemes
    ◌▹◌ : Schemes → Scheme → Schemes

infixl 10 ◌▹◌
-- the scheme of a name, by the number of binders that stand between the name and its own
abbrev pub scheme_at : Schemes → ℕ → Option Scheme
scheme_at Start distance = None
scheme_at (schemes ▹ scheme) zero = Some scheme
scheme_at (schemes ▹ scheme) (suc distance) = scheme_at schemes distance

-- the variables of an environment are left as they are
abbrev mutual
  pub KeepsSchemes : (List ℕ → Plain) → Schemes → Type 0
  KeepsSchemes images Start = Unit {0}
  KeepsSchemes images (schemes ▹ scheme) = KeepsSchemes images schemes × KeepsScheme images scheme

  pub KeepsScheme : (List ℕ → Plain) → Scheme → Type 0
  KeepsScheme images (Single type) = substituted images type ≡ type
  KeepsScheme images (Poly schemes type) = KeepsSchemes images schemes

abbrev mutual
  pub Keeps : (List ℕ → Plain) → Env → Type 0
  Keeps images Empty = Unit {0}
  Keeps images (env ▸ entry) = Keeps images env × KeepsEntry images entry

  pub KeepsEntry : (List ℕ → Plain) → Entry → Type 0
  KeepsEntry images (Mono type) = substituted images type ≡ type
  KeepsEntry images (Def env bound) = Keeps images env
  KeepsEntry images (Rec env bound) = Keeps images env

-- the first comes from the second by a substitution that leaves what is kept
pub record IsInstanceKeeping (kept : (List ℕ → Plain) → Type 0) (special general : Plain) : Type 0 where
  pub images : List ℕ → Plain
  pub well_formed : (name : List ℕ) → IsWellFormed (images name)
  pub same : substituted images general ≡ special
  pub keeps : kept images

pub data Gen (K : List Constant) : Schemes → Core → Plain → Type 0 where
  literal : (schemes : Schemes) (n : ℕ) (at : Span) (l : Lit)
      → Gen K schemes (core n at (Literal l)) (literal_type l)
  constant : (schemes : Schemes) (n : ℕ) (at : Span) (id : ℕ) (closed type : Plain)
      → HasClosed K id closed → IsInstance type closed
      → Gen K schemes (core n at (Const id)) type
  hole : (schemes : Schemes) (n : ℕ) (at : Span) (type : Plain)
      → IsWellFormed type
      → Gen K schemes (core n at Hole) type
  name_single : (schemes : Schemes) (n : ℕ) (at : Span) (distance : ℕ) (type : Plain)
      → scheme_at schemes distance ≡ Some (Single type)
      → Gen K schemes (core n at (Name distance)) type
  name_poly : (schemes : Schemes) (n : ℕ) (at : Span) (distance : ℕ) (inner : Schemes) (general type : Plain)
      → scheme_at schemes distance ≡ Some (Poly inner general)
      → IsInstanceKeeping (λ images. KeepsSchemes images inner) type general
      → Gen K schemes (core n at (Name distance)) type
  fun : (schemes : Schemes) (n : ℕ) (at : Span) (body : Core) (from to : Plain)
      → IsWellFormed from
      → Gen K (schemes ▹ Single from) body to
      → Gen K schemes (core n at (fun_form body)) (from ⇒ to)
  app : (schemes : Schemes) (n : ℕ) (at : Span) (function argument : Core) (from to : Plain)
      → Gen K schemes function (from ⇒ to)
      → Gen K schemes argument from
      → Gen K schemes (core n at (app_form function argument)) to
  let_in : (schemes : Schemes) (n : ℕ) (at : Span) (bound body : Core) (general type : Plain)
      → Gen K schemes bound general
      → Gen K (schemes ▹ Poly schemes general) body type
      → Gen K schemes (core n at (let_form bound body)) type
  let_rec : (schemes : Schemes) (n : ℕ) (at : Span) (name : List ℕ) (name_at : Span) (bound body : Core) (general type : Plain)
      → IsWellFormed general
      → Gen K (schemes ▹ Single general) bound general
      → Gen K (schemes ▹ Poly schemes general) body type
      → Gen K schemes (core n at (let_rec_form name name_at bound body)) type

-- a most general type of an expression in an environment: each of its types there is an instance of it,
-- by a substitution that leaves the variables of the environment as they are
pub record MostGeneral (K : List Constant) (env : Env) (e : Core) (type : Plain) : Type 0 where
  pub typed : Ty K env e type
  pub general : (other : Plain) → Ty K env e other → IsInstanceKeeping (λ images. Keeps images env) other type

-- every expression with a type in an environment has a most general type there
abbrev pub Most : List Constant → Type 0
Most K = (env : Env) (e : Core) (type : Plain) → IsWellFormedEnv env → Ty K env e type → (general : Plain) × MostGeneral K env e general
