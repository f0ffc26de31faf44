use Rattle.std.proofs.Common.{◌≡◌, ℕ, List, Some, refl, sym, subst, ◌∙◌}
use Rattle.std.proofs.lemmas.Option.{same_Some}
use Rattle.vt_lex.specs.declared.span.Span.{Span}
use Rattle.vt_syntax.specs.declared.core_expr.Core.{Core}
use Rattle.vt_syntax.specs.declared.core_expr.Form.{Literal, Name, Const, Hole}
use Rattle.vt_syntax.specs.declared.core_expr.Lit.{Lit}
use Rattle.vt_syntax.specs.CoreTrees.{core, fun_form, app_form, let_form, let_rec_form}
use Rattle.vt_type.specs.declared.plain.Plain.{Plain}
use Rattle.vt_type.specs.Plain.{IsWellFormed, IsInstance}
use Rattle.vt_type.specs.Constants.{Constant, HasClosed, ◌⇒◌}
use Rattle.vt_rules.specs.Env.{Env, Entry, ◌▸◌, Mono, Def, Rec, entry_at}
use Rattle.vt_rules.specs.Typing.{Ty, literal_type}
use Rattle.vt_rules.specs.Typing as ty

-- What a typing of each form says of its parts.

-- the types that an entry gives to its name
abbrev pub Allows : List Constant → Entry → Plain → Type 0
Allows K (Mono own) type = type ≡ own
Allows K (Def env bound) type = Ty K env bound type
Allows K (Rec env bound) type = IsWellFormed type × Ty K (env ▸ Mono type) bound type

module _ (K : List Constant) (env : Env) (n : ℕ) (at : Span) where
  pub of_literal : (l : Lit) (type : Plain) → Ty K env (core n at (Literal l)) type → type ≡ literal_type l
  of_literal l _ (ty.literal _ _ _ _) = refl

  pub of_constant : (id : ℕ) (type : Plain) → Ty K env (core n at (Const id)) type → (closed : Plain) × HasClosed K id closed × IsInstance type closed
  of_constant id type (ty.constant _ _ _ _ closed _ has instance) = (closed, has, instance)

  pub of_hole : (type : Plain) → Ty K env (core n at Hole) type → IsWellFormed type
  of_hole type (ty.hole _ _ _ _ w) = w

  pub of_name : (distance : ℕ) (type : Plain) → Ty K env (core n at (Name distance)) type → (entry : Entry) × (entry_at env distance ≡ Some entry) × Allows K entry type
  of_name distance type (ty.name_mono _ _ _ _ _ e) = (Mono type, e, refl)
  of_name distance type (ty.name_def _ _ _ _ inner bound _ e d) = (Def inner bound, e, d)
  of_name distance type (ty.name_rec _ _ _ _ inner bound _ e w d) = (Rec inner bound, e, (w, d))

  -- a name whose entry is known
  pub of_known : (distance : ℕ) (entry : Entry) (type : Plain) → entry_at env distance ≡ Some entry → Ty K env (core n at (Name distance)) type → Allows K entry type
  of_known distance entry type e d =
      let (other, f, h) = of_name distance type d in
      subst (λ x. Allows K x type) (same_Some other entry (sym f ∙ e)) h

  -- and back
  pub by_entry : (distance : ℕ) (entry : Entry) (type : Plain) → entry_at env distance ≡ Some entry → Allows K entry type → Ty K env (core n at (Name distance)) type
  by_entry distance (Mono own) type e h = subst (Ty K env (core n at (Name distance))) (sym h) (ty.name_mono env n at distance own e)
  by_entry distance (Def inner bound) type e h = ty.name_def env n at distance inner bound type e h
  by_entry distance (Rec inner bound) type e h = ty.name_rec env n at distance inner bound type e h.0 h.1

  pub of_fun : (body : Core) (type : Plain) → Ty K env (core n at (fun_form body)) type
      → (from to : Plain) × IsWellFormed from × Ty K (env ▸ Mono from) body to × (type ≡ from ⇒ to)
  of_fun _ _ (ty.fun _ _ _ body from to w d) = (from, to, w, d, refl)

  pub of_app : (function argument : Core) (type : Plain) → Ty K env (core n at (app_form function argument)) type
      → (from : Plain) × Ty K env function (from ⇒ type) × Ty K env argument from
  of_app _ _ _ (ty.app _ _ _ function argument from type d f) = (from, d, f)

  pub of_let : (bound body : Core) (type : Plain) → Ty K env (core n at (let_form bound body)) type
      → (some : Plain) × Ty K env bound some × Ty K (env ▸ Def env bound) body type
  of_let _ _ _ (ty.let_in _ _ _ bound body some type d f) = (some, d, f)

  pub of_let_rec : (name : List ℕ) (name_at : Span) (bound body : Core) (type : Plain) → Ty K env (core n at (let_rec_form name name_at bound body)) type
      → (some : Plain) × IsWellFormed some × Ty K (env ▸ Mono some) bound some × Ty K (env ▸ Rec env bound) body type
  of_let_rec _ _ _ _ _ (ty.let_rec _ _ _ name name_at bound body some type w d f) = (some, w, d, f)
