use Rattle.std.proofs.Common.{ℕ, List, inl, inr, sym, subst}
use Rattle.vt_syntax.specs.declared.core_expr.Core.{Core}
use Rattle.vt_syntax.specs.declared.core_expr.Form.{Hole}
use Rattle.vt_syntax.specs.CoreTrees.{core}
use Rattle.vt_type.specs.declared.plain.Plain.{Plain}
use Rattle.vt_type.specs.Constants.{Constant, ◌⇒◌}
use Rattle.vt_rules.specs.Env.{Env}
use Rattle.vt_rules.specs.Typing.{Ty}
use Rattle.vt_rules.specs.Typing as ty
use Rattle.vt_rules.specs.TypingAt.{TyAt, HoldsHole}
use Rattle.vt_rules.specs.TypingAt as at

-- Typing with a marked hole, and typing.

module _ (K : List Constant) (mark : ℕ) where
  -- the mark is forgotten
  pub unmarked : (env : Env) (e : Core) (type wanted : Plain) → TyAt K mark env e type wanted → Ty K env e type
  unmarked _ _ _ _ (at.here env by type w) = ty.hole env mark by type w
  unmarked _ _ _ _ (at.in_fun env n by body from to wanted w d) = ty.fun env n by body from to w (unmarked _ body to wanted d)
  unmarked _ _ _ _ (at.in_function env n by function argument from to wanted d f) = ty.app env n by function argument from to (unmarked env function (from ⇒ to) wanted d) f
  unmarked _ _ _ _ (at.in_argument env n by function argument from to wanted d f) = ty.app env n by function argument from to d (unmarked env argument from wanted f)
  unmarked _ _ _ _ (at.in_let_bound env n by bound body some type wanted d f) = ty.let_in env n by bound body some type (unmarked env bound some wanted d) f
  unmarked _ _ _ _ (at.in_let_body env n by bound body some type wanted d f) = ty.let_in env n by bound body some type d (unmarked _ body type wanted f)
  unmarked _ _ _ _ (at.in_rec_bound env n by name name_at bound body some type wanted w d f) =
      ty.let_rec env n by name name_at bound body some type w (unmarked _ bound some wanted d) f
  unmarked _ _ _ _ (at.in_rec_body env n by name name_at bound body some type wanted w d f) =
      ty.let_rec env n by name name_at bound body some type w d (unmarked _ body type wanted f)

  -- a hole that is written in an expression has a type in each of its typings
  pub marked : (env : Env) (e : Core) (type : Plain) → Ty K env e type → HoldsHole mark e.node e.form → (wanted : Plain) × TyAt K mark env e type wanted
  marked _ _ _ (ty.literal env n by l) h = absurd h
  marked _ _ _ (ty.constant env n by id closed type has instance) h = absurd h
  marked _ _ _ (ty.hole env n by type w) h = (type, subst (λ m. TyAt K mark env (core m by Hole) type type) (sym h) (at.here env by type w))
  marked _ _ _ (ty.name_mono env n by distance type e) h = absurd h
  marked _ _ _ (ty.name_def env n by distance inner bound type e d) h = absurd h
  marked _ _ _ (ty.name_rec env n by distance inner bound type e w d) h = absurd h
  marked _ _ _ (ty.fun env n by body from to w d) h = let (wanted, f) = marked _ body to d h in (wanted, at.in_fun env n by body from to wanted w f)
  marked _ _ _ (ty.app env n by function argument from to d f) (inl h) = let (wanted, g) = marked env function (from ⇒ to) d h in (wanted, at.in_function env n by function argument from to wanted g f)
  marked _ _ _ (ty.app env n by function argument from to d f) (inr h) = let (wanted, g) = marked env argument from f h in (wanted, at.in_argument env n by function argument from to wanted d g)
  marked _ _ _ (ty.let_in env n by bound body some type d f) (inl h) = let (wanted, g) = marked env bound some d h in (wanted, at.in_let_bound env n by bound body some type wanted g f)
  marked _ _ _ (ty.let_in env n by bound body some type d f) (inr h) = let (wanted, g) = marked _ body type f h in (wanted, at.in_let_body env n by bound body some type wanted d g)
  marked _ _ _ (ty.let_rec env n by name name_at bound body some type w d f) (inl h) =
      let (wanted, g) = marked _ bound some d h in (wanted, at.in_rec_bound env n by name name_at bound body some type wanted w g f)
  marked _ _ _ (ty.let_rec env n by name name_at bound body some type w d f) (inr h) =
      let (wanted, g) = marked _ body type f h in (wanted, at.in_rec_body env n by name name_at bound body some type wanted w d g)
