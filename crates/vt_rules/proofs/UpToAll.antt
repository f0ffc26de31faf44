use Rattle.std.proofs.Common.{◌≡◌, ◌↔◌, ℕ, zero, suc, ◌≤◌, List, All, Some, subst, arith}
use Rattle.std.proofs.lemmas.Option.{same_Some, none-some}
use Rattle.vt_syntax.specs.declared.core_expr.Core.{Core}
use Rattle.vt_syntax.specs.Checking.{numbers_of}
use Rattle.vt_type.specs.declared.plain.Plain.{Plain}
use Rattle.vt_type.specs.Constants.{Constant, IsTable, ◌⇒◌}
use Rattle.vt_rules.specs.Env.{Env, Entry, Empty, ◌▸◌, Mono, Def, Rec, entry_at}
use Rattle.vt_rules.specs.Typing.{Ty}
use Rattle.vt_rules.specs.Typing as ty
use Rattle.vt_rules.specs.TypingUpTo.{TyUpTo}
use Rattle.vt_rules.specs.TypingUpTo as to
use Rattle.vt_rules.proofs.InOrder.{AllNodes, all_nodes}
use Rattle.vt_rules.proofs.UpTo.{ty-up_to}

-- Typing up to a number that no node passes.

-- something holds of the numbers of all nodes in an environment
abbrev mutual
  pub AllInEnv : (ℕ → Type 0) → Env → Type 0
  AllInEnv P Empty = Unit {0}
  AllInEnv P (env ▸ entry) = AllInEnv P env × AllInEntry P entry

  pub AllInEntry : (ℕ → Type 0) → Entry → Type 0
  AllInEntry P (Mono type) = Unit {0}
  AllInEntry P (Def env bound) = AllInEnv P env × AllNodes P bound.node bound.form
  AllInEntry P (Rec env bound) = AllInEnv P env × AllNodes P bound.node bound.form

pub all_in_entry : (P : ℕ → Type 0) (env : Env) (distance : ℕ) (entry : Entry) → AllInEnv P env → entry_at env distance ≡ Some entry → AllInEntry P entry
all_in_entry P Empty distance entry h e = absurd (none-some entry e)
all_in_entry P (env ▸ other) zero entry h e = subst (AllInEntry P) (same_Some other entry e) h.1
all_in_entry P (env ▸ other) (suc distance) entry h e = all_in_entry P env distance entry h.0 e

module _ (K : List Constant) (k : ℕ) where
  -- where no node is above the number, a typing up to it is a typing
  pub up_to-ty : (env : Env) (e : Core) (type : Plain) → TyUpTo K k env e type → AllInEnv (λ n. n ≤ k) env → AllNodes (λ n. n ≤ k) e.node e.form → Ty K env e type
  up_to-ty _ _ _ (to.literal env n by l le) h all = ty.literal env n by l
  up_to-ty _ _ _ (to.constant env n by id closed type le has instance) h all = ty.constant env n by id closed type has instance
  up_to-ty _ _ _ (to.hole env n by type le w) h all = ty.hole env n by type w
  up_to-ty _ _ _ (to.name_mono env n by distance type le e) h all = ty.name_mono env n by distance type e
  up_to-ty _ _ _ (to.name_def env n by distance inner bound type le e d) h all =
      let within = all_in_entry (λ n. n ≤ k) env distance (Def inner bound) h e in
      ty.name_def env n by distance inner bound type e (up_to-ty inner bound type d within.0 within.1)
  up_to-ty _ _ _ (to.name_rec env n by distance inner bound type le e w d) h all =
      let within = all_in_entry (λ n. n ≤ k) env distance (Rec inner bound) h e in
      ty.name_rec env n by distance inner bound type e w (up_to-ty (inner ▸ Mono type) bound type d (within.0, tt) within.1)
  up_to-ty _ _ _ (to.fun env n by body from type le w d) h all = ty.fun env n by body from type w (up_to-ty (env ▸ Mono from) body type d (h, tt) all.1)
  up_to-ty _ _ _ (to.app env n by function argument from type le d f) h all =
      ty.app env n by function argument from type (up_to-ty env function (from ⇒ type) d h all.1) (up_to-ty env argument from f h all.2)
  up_to-ty _ _ _ (to.let_in env n by bound body some type le d f) h all =
      ty.let_in env n by bound body some type (up_to-ty env bound some d h all.1) (up_to-ty (env ▸ Def env bound) body type f (h, (h, all.1)) all.2)
  up_to-ty _ _ _ (to.let_rec env n by name name_at bound body some type le w d f) h all =
      ty.let_rec env n by name name_at bound body some type w (up_to-ty (env ▸ Mono some) bound some d (h, tt) all.1) (up_to-ty (env ▸ Rec env bound) body type f (h, (h, all.1)) all.2)
  up_to-ty _ _ _ (to.literal_above env n by l type above w) h all = absurd (omega arith)
  up_to-ty _ _ _ (to.constant_above env n by id type above w) h all = absurd (omega arith)
  up_to-ty _ _ _ (to.hole_above env n by type above w) h all = absurd (omega arith)
  up_to-ty _ _ _ (to.name_above env n by distance type above w) h all = absurd (omega arith)
  up_to-ty _ _ _ (to.fun_above env n by body from other type above w v d) h all = absurd (omega arith)
  up_to-ty _ _ _ (to.app_above env n by function argument one other type above w d f) h all = absurd (omega arith)
  up_to-ty _ _ _ (to.let_above env n by bound body one other type above w d f) h all = absurd (omega arith)
  up_to-ty _ _ _ (to.let_rec_above env n by name name_at bound body from one other type above w v d f) h all = absurd (omega arith)

-- the same of a whole program
pub whole_up_to : (K : List Constant) → IsTable K → (k : ℕ) (program : Core) (type : Plain)
    → All (λ number. number ≤ k) (numbers_of program) → TyUpTo K k Empty program type ↔ Ty K Empty program type
whole_up_to K table k program type all = (
  λ d. up_to-ty K k Empty program type d tt (all_nodes (λ number. number ≤ k) program.node program.form all),
  λ d. ty-up_to K table k Empty program type d tt,
)
