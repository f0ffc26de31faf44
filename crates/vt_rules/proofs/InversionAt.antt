use Rattle.std.proofs.Common.{◌≡◌, ℕ, List, refl, inl, inr}
use Rattle.vt_lex.specs.declared.span.Span.{Span}
use Rattle.vt_syntax.specs.declared.core_expr.Core.{Core}
use Rattle.vt_syntax.specs.declared.core_expr.Form.{Hole}
use Rattle.vt_syntax.specs.CoreTrees.{core, fun_form, app_form, let_form, let_rec_form}
use Rattle.vt_type.specs.declared.plain.Plain.{Plain}
use Rattle.vt_type.specs.Plain.{IsWellFormed}
use Rattle.vt_type.specs.Constants.{Constant, ◌⇒◌}
use Rattle.vt_rules.specs.Env.{Env, ◌▸◌, Mono, Def, Rec}
use Rattle.vt_rules.specs.Typing.{Ty}
use Rattle.vt_rules.specs.TypingAt.{TyAt, HoldsHole}
use Rattle.vt_rules.specs.TypingAt as at

-- What a typing with a marked hole says of the parts of each form.

module _ (K : List Constant) (mark : ℕ) where
  -- the hole is written in the expression
  pub holds : (env : Env) (e : Core) (type wanted : Plain) → TyAt K mark env e type wanted → HoldsHole mark e.node e.form
  holds _ _ _ _ (at.here env by type w) = refl
  holds _ _ _ _ (at.in_fun env n by body from to wanted w d) = holds _ body to wanted d
  holds _ _ _ _ (at.in_function env n by function argument from to wanted d f) = inl (holds env function _ wanted d)
  holds _ _ _ _ (at.in_argument env n by function argument from to wanted d f) = inr (holds env argument from wanted f)
  holds _ _ _ _ (at.in_let_bound env n by bound body some type wanted d f) = inl (holds env bound some wanted d)
  holds _ _ _ _ (at.in_let_body env n by bound body some type wanted d f) = inr (holds _ body type wanted f)
  holds _ _ _ _ (at.in_rec_bound env n by name name_at bound body some type wanted w d f) = inl (holds _ bound some wanted d)
  holds _ _ _ _ (at.in_rec_body env n by name name_at bound body some type wanted w d f) = inr (holds _ body type wanted f)

  pub at_hole : (env : Env) (n : ℕ) (by : Span) (type wanted : Plain) → TyAt K mark env (core n by Hole) type wanted → (type ≡ wanted) × IsWellFormed type
  at_hole _ _ _ _ _ (at.here env by type w) = (refl, w)

  pub at_fun : (env : Env) (n : ℕ) (by : Span) (body : Core) (type wanted : Plain) → TyAt K mark env (core n by (fun_form body)) type wanted
      → (from to : Plain) × IsWellFormed from × TyAt K mark (env ▸ Mono from) body to wanted × (type ≡ from ⇒ to)
  at_fun _ _ _ _ _ _ (at.in_fun env n by body from to wanted w d) = (from, to, w, d, refl)

  pub at_function : (env : Env) (n : ℕ) (by : Span) (function argument : Core) (type wanted : Plain) → (HoldsHole mark argument.node argument.form → ⊥) → TyAt K mark env (core n by (app_form function argument)) type wanted
      → (from : Plain) × TyAt K mark env function (from ⇒ type) wanted × Ty K env argument from
  at_function _ _ _ _ _ _ _ none (at.in_function env n by function argument from to wanted d f) = (from, d, f)
  at_function _ _ _ _ _ _ _ none (at.in_argument env n by function argument from to wanted d f) = absurd (none (holds env argument from wanted f))

  pub at_argument : (env : Env) (n : ℕ) (by : Span) (function argument : Core) (type wanted : Plain) → (HoldsHole mark function.node function.form → ⊥) → TyAt K mark env (core n by (app_form function argument)) type wanted
      → (from : Plain) × Ty K env function (from ⇒ type) × TyAt K mark env argument from wanted
  at_argument _ _ _ _ _ _ _ none (at.in_function env n by function argument from to wanted d f) = absurd (none (holds env function (from ⇒ to) wanted d))
  at_argument _ _ _ _ _ _ _ none (at.in_argument env n by function argument from to wanted d f) = (from, d, f)

  pub at_let_bound : (env : Env) (n : ℕ) (by : Span) (bound body : Core) (type wanted : Plain) → (HoldsHole mark body.node body.form → ⊥) → TyAt K mark env (core n by (let_form bound body)) type wanted
      → (some : Plain) × TyAt K mark env bound some wanted × Ty K (env ▸ Def env bound) body type
  at_let_bound _ _ _ _ _ _ _ none (at.in_let_bound env n by bound body some type wanted d f) = (some, d, f)
  at_let_bound _ _ _ _ _ _ _ none (at.in_let_body env n by bound body some type wanted d f) = absurd (none (holds _ body type wanted f))

  pub at_let_body : (env : Env) (n : ℕ) (by : Span) (bound body : Core) (type wanted : Plain) → (HoldsHole mark bound.node bound.form → ⊥) → TyAt K mark env (core n by (let_form bound body)) type wanted
      → (some : Plain) × Ty K env bound some × TyAt K mark (env ▸ Def env bound) body type wanted
  at_let_body _ _ _ _ _ _ _ none (at.in_let_bound env n by bound body some type wanted d f) = absurd (none (holds env bound some wanted d))
  at_let_body _ _ _ _ _ _ _ none (at.in_let_body env n by bound body some type wanted d f) = (some, d, f)

  pub at_rec_bound : (env : Env) (n : ℕ) (by : Span) (name : List ℕ) (name_at : Span) (bound body : Core) (type wanted : Plain) → (HoldsHole mark body.node body.form → ⊥)
      → TyAt K mark env (core n by (let_rec_form name name_at bound body)) type wanted
      → (some : Plain) × IsWellFormed some × TyAt K mark (env ▸ Mono some) bound some wanted × Ty K (env ▸ Rec env bound) body type
  at_rec_bound _ _ _ _ _ _ _ _ _ none (at.in_rec_bound env n by name name_at bound body some type wanted w d f) = (some, w, d, f)
  at_rec_bound _ _ _ _ _ _ _ _ _ none (at.in_rec_body env n by name name_at bound body some type wanted w d f) = absurd (none (holds _ body type wanted f))

  pub at_rec_body : (env : Env) (n : ℕ) (by : Span) (name : List ℕ) (name_at : Span) (bound body : Core) (type wanted : Plain) → (HoldsHole mark bound.node bound.form → ⊥)
      → TyAt K mark env (core n by (let_rec_form name name_at bound body)) type wanted
      → (some : Plain) × IsWellFormed some × Ty K (env ▸ Mono some) bound some × TyAt K mark (env ▸ Rec env bound) body type wanted
  at_rec_body _ _ _ _ _ _ _ _ _ none (at.in_rec_bound env n by name name_at bound body some type wanted w d f) = absurd (none (holds _ bound some wanted d))
  at_rec_body _ _ _ _ _ _ _ _ _ none (at.in_rec_body env n by name name_at bound body some type wanted w d f) = (some, w, d, f)
