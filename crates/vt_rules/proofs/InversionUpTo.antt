use Rattle.std.proofs.Common.{◌≡◌, ℕ, ◌≤◌, List, Some, refl, arith}
use Rattle.vt_lex.specs.declared.span.Span.{Span}
use Rattle.vt_syntax.specs.declared.core_expr.Core.{Core}
use Rattle.vt_syntax.specs.declared.core_expr.Form.{Name}
use Rattle.vt_syntax.specs.CoreTrees.{core, fun_form, app_form, let_form, let_rec_form}
use Rattle.vt_type.specs.declared.plain.Plain.{Plain}
use Rattle.vt_type.specs.Plain.{IsWellFormed}
use Rattle.vt_type.specs.Constants.{Constant, ◌⇒◌}
use Rattle.vt_rules.specs.Env.{Env, Entry, ◌▸◌, Mono, Def, Rec, entry_at}
use Rattle.vt_rules.specs.TypingUpTo.{TyUpTo}
use Rattle.vt_rules.specs.TypingUpTo as to

-- What a typing up to a number says of the parts of each form: of a node within the number what its rule
-- says, of any node that each of its parts has some type.

module _ (K : List Constant) (k : ℕ) where
  -- the types that an entry gives to a name within the number
  abbrev pub AllowsUpTo : Entry → Plain → Type 0
  AllowsUpTo (Mono own) type = type ≡ own
  AllowsUpTo (Def env bound) type = TyUpTo K k env bound type
  AllowsUpTo (Rec env bound) type = IsWellFormed type × TyUpTo K k (env ▸ Mono type) bound type

  pub name_within : (env : Env) (n : ℕ) (at : Span) (distance : ℕ) (type : Plain) → n ≤ k → TyUpTo K k env (core n at (Name distance)) type
      → (entry : Entry) × (entry_at env distance ≡ Some entry) × AllowsUpTo entry type
  name_within _ _ _ _ _ le (to.name_mono env n at distance type within e) = (Mono type, e, refl)
  name_within _ _ _ _ _ le (to.name_def env n at distance inner bound type within e d) = (Def inner bound, e, d)
  name_within _ _ _ _ _ le (to.name_rec env n at distance inner bound type within e w d) = (Rec inner bound, e, (w, d))
  name_within _ _ _ _ _ le (to.name_above env n at distance type above w) = absurd (omega arith)

  pub app_within : (env : Env) (n : ℕ) (at : Span) (function argument : Core) (type : Plain) → n ≤ k → TyUpTo K k env (core n at (app_form function argument)) type
      → (from : Plain) × TyUpTo K k env function (from ⇒ type) × TyUpTo K k env argument from
  app_within _ _ _ _ _ _ le (to.app env n at function argument from type within d f) = (from, d, f)
  app_within _ _ _ _ _ _ le (to.app_above env n at function argument one other type above w d f) = absurd (omega arith)

  pub let_rec_within : (env : Env) (n : ℕ) (at : Span) (name : List ℕ) (name_at : Span) (bound body : Core) (type : Plain) → n ≤ k
      → TyUpTo K k env (core n at (let_rec_form name name_at bound body)) type
      → (some : Plain) × IsWellFormed some × TyUpTo K k (env ▸ Mono some) bound some × TyUpTo K k (env ▸ Rec env bound) body type
  let_rec_within _ _ _ _ _ _ _ _ le (to.let_rec env n at name name_at bound body some type within w d f) = (some, w, d, f)
  let_rec_within _ _ _ _ _ _ _ _ le (to.let_rec_above env n at name name_at bound body from one other type above w v d f) = absurd (omega arith)

  -- the parts of any node
  pub fun_parts : (env : Env) (n : ℕ) (at : Span) (body : Core) (type : Plain) → TyUpTo K k env (core n at (fun_form body)) type
      → (from some : Plain) × IsWellFormed from × TyUpTo K k (env ▸ Mono from) body some
  fun_parts _ _ _ _ _ (to.fun env n at body from result within w d) = (from, result, w, d)
  fun_parts _ _ _ _ _ (to.fun_above env n at body from other type above w v d) = (from, other, v, d)

  pub app_parts : (env : Env) (n : ℕ) (at : Span) (function argument : Core) (type : Plain) → TyUpTo K k env (core n at (app_form function argument)) type
      → (one other : Plain) × TyUpTo K k env function one × TyUpTo K k env argument other
  app_parts _ _ _ _ _ _ (to.app env n at function argument from type within d f) = (from ⇒ type, from, d, f)
  app_parts _ _ _ _ _ _ (to.app_above env n at function argument one other type above w d f) = (one, other, d, f)

  pub let_parts : (env : Env) (n : ℕ) (at : Span) (bound body : Core) (type : Plain) → TyUpTo K k env (core n at (let_form bound body)) type
      → (one other : Plain) × TyUpTo K k env bound one × TyUpTo K k (env ▸ Def env bound) body other
  let_parts _ _ _ _ _ _ (to.let_in env n at bound body some type within d f) = (some, type, d, f)
  let_parts _ _ _ _ _ _ (to.let_above env n at bound body one other type above w d f) = (one, other, d, f)

  pub let_rec_parts : (env : Env) (n : ℕ) (at : Span) (name : List ℕ) (name_at : Span) (bound body : Core) (type : Plain)
      → TyUpTo K k env (core n at (let_rec_form name name_at bound body)) type
      → (from one other : Plain) × IsWellFormed from × TyUpTo K k (env ▸ Mono from) bound one × TyUpTo K k (env ▸ Rec env bound) body other
  let_rec_parts _ _ _ _ _ _ _ _ (to.let_rec env n at name name_at bound body some type within w d f) = (some, some, type, w, d, f)
  let_rec_parts _ _ _ _ _ _ _ _ (to.let_rec_above env n at name name_at bound body from one other type above w v d f) = (from, one, other, v, d, f)
