use Rattle.std.proofs.Common.{ℕ, ◌≤◌, List, inl, inr, arith}
use Rattle.std.proofs.lemmas.Bool.{cases_lt}
use Rattle.vt_syntax.specs.declared.core_expr.Core.{Core}
use Rattle.vt_type.specs.declared.plain.Plain.{Plain}
use Rattle.vt_type.specs.Plain.{IsWellFormed}
use Rattle.vt_type.specs.Constants.{Constant, IsTable, ◌⇒◌}
use Rattle.vt_rules.specs.Env.{Env, ◌▸◌, Mono, Def, Rec, IsWellFormedEnv}
use Rattle.vt_rules.specs.Typing.{Ty}
use Rattle.vt_rules.specs.Typing as ty
use Rattle.vt_rules.specs.TypingUpTo.{TyUpTo}
use Rattle.vt_rules.specs.TypingUpTo as to
use Rattle.vt_rules.proofs.Entries.{entry-well_formed, closed-well_formed}
use Rattle.vt_rules.proofs.WellFormedTypes.{literal-well_formed, instance-well_formed, arrow-well_formed, result-well_formed, ty-well_formed}

-- Typing up to a number, and up to a smaller one.

module _ (K : List Constant) (table : IsTable K) where
  pub up_to-well_formed : (k : ℕ) (env : Env) (e : Core) (type : Plain) → TyUpTo K k env e type → IsWellFormedEnv env → IsWellFormed type
  up_to-well_formed k _ _ _ (to.literal env n by l le) h = literal-well_formed l
  up_to-well_formed k _ _ _ (to.constant env n by id closed type le has instance) h = instance-well_formed type closed (closed-well_formed K id closed table has) instance
  up_to-well_formed k _ _ _ (to.hole env n by type le w) h = w
  up_to-well_formed k _ _ _ (to.name_mono env n by distance type le e) h = entry-well_formed env distance (Mono type) h e
  up_to-well_formed k _ _ _ (to.name_def env n by distance inner bound type le e d) h = up_to-well_formed k inner bound type d (entry-well_formed env distance (Def inner bound) h e)
  up_to-well_formed k _ _ _ (to.name_rec env n by distance inner bound type le e w d) h = w
  up_to-well_formed k _ _ _ (to.fun env n by body from type le w d) h = arrow-well_formed from type w (up_to-well_formed k _ body type d (h, w))
  up_to-well_formed k _ _ _ (to.app env n by function argument from type le d f) h = result-well_formed from type (up_to-well_formed k env function (from ⇒ type) d h)
  up_to-well_formed k _ _ _ (to.let_in env n by bound body some type le d f) h = up_to-well_formed k _ body type f (h, h)
  up_to-well_formed k _ _ _ (to.let_rec env n by name name_at bound body some type le w d f) h = up_to-well_formed k _ body type f (h, h)
  up_to-well_formed k _ _ _ (to.literal_above env n by l type above w) h = w
  up_to-well_formed k _ _ _ (to.constant_above env n by id type above w) h = w
  up_to-well_formed k _ _ _ (to.hole_above env n by type above w) h = w
  up_to-well_formed k _ _ _ (to.name_above env n by distance type above w) h = w
  up_to-well_formed k _ _ _ (to.fun_above env n by body from other type above w v d) h = w
  up_to-well_formed k _ _ _ (to.app_above env n by function argument one other type above w d f) h = w
  up_to-well_formed k _ _ _ (to.let_above env n by bound body one other type above w d f) h = w
  up_to-well_formed k _ _ _ (to.let_rec_above env n by name name_at bound body from one other type above w v d f) h = w

  -- a typing up to a number is one up to each smaller number
  module _ (m k : ℕ) (less : m ≤ k) where
    pub up_to-smaller : (env : Env) (e : Core) (type : Plain) → TyUpTo K k env e type → IsWellFormedEnv env → TyUpTo K m env e type
    up_to-smaller _ _ _ (to.literal env n by l le) h =
        elim (cases_lt m n) [ inl above ↦ to.literal_above env n by l _ above (literal-well_formed l) | inr below ↦ to.literal env n by l below ]
    up_to-smaller _ _ _ (to.constant env n by id closed type le has instance) h =
        elim (cases_lt m n) [
          | inl above ↦ to.constant_above env n by id type above (instance-well_formed type closed (closed-well_formed K id closed table has) instance)
          | inr below ↦ to.constant env n by id closed type below has instance
        ]
    up_to-smaller _ _ _ (to.hole env n by type le w) h =
        elim (cases_lt m n) [ inl above ↦ to.hole_above env n by type above w | inr below ↦ to.hole env n by type below w ]
    up_to-smaller _ _ _ (to.name_mono env n by distance type le e) h =
        elim (cases_lt m n) [
          | inl above ↦ to.name_above env n by distance type above (entry-well_formed env distance (Mono type) h e)
          | inr below ↦ to.name_mono env n by distance type below e
        ]
    up_to-smaller _ _ _ (to.name_def env n by distance inner bound type le e d) h =
        let f = up_to-smaller inner bound type d (entry-well_formed env distance (Def inner bound) h e) in
        elim (cases_lt m n) [
          | inl above ↦ to.name_above env n by distance type above (up_to-well_formed m inner bound type f (entry-well_formed env distance (Def inner bound) h e))
          | inr below ↦ to.name_def env n by distance inner bound type below e f
        ]
    up_to-smaller _ _ _ (to.name_rec env n by distance inner bound type le e w d) h =
        let f = up_to-smaller (inner ▸ Mono type) bound type d (entry-well_formed env distance (Rec inner bound) h e, w) in
        elim (cases_lt m n) [ inl above ↦ to.name_above env n by distance type above w | inr below ↦ to.name_rec env n by distance inner bound type below e w f ]
    up_to-smaller _ _ _ (to.fun env n by body from type le w d) h =
        let f = up_to-smaller (env ▸ Mono from) body type d (h, w) in
        elim (cases_lt m n) [
          | inl above ↦ to.fun_above env n by body from type _ above (arrow-well_formed from type w (up_to-well_formed k _ body type d (h, w))) w f
          | inr below ↦ to.fun env n by body from type below w f
        ]
    up_to-smaller _ _ _ (to.app env n by function argument from type le d f) h =
        let g = up_to-smaller env function (from ⇒ type) d h in
        let j = up_to-smaller env argument from f h in
        elim (cases_lt m n) [
          | inl above ↦ to.app_above env n by function argument _ from type above (result-well_formed from type (up_to-well_formed k env function (from ⇒ type) d h)) g j
          | inr below ↦ to.app env n by function argument from type below g j
        ]
    up_to-smaller _ _ _ (to.let_in env n by bound body some type le d f) h =
        let g = up_to-smaller env bound some d h in
        let j = up_to-smaller (env ▸ Def env bound) body type f (h, h) in
        elim (cases_lt m n) [
          | inl above ↦ to.let_above env n by bound body some type type above (up_to-well_formed k _ body type f (h, h)) g j
          | inr below ↦ to.let_in env n by bound body some type below g j
        ]
    up_to-smaller _ _ _ (to.let_rec env n by name name_at bound body some type le w d f) h =
        let g = up_to-smaller (env ▸ Mono some) bound some d (h, w) in
        let j = up_to-smaller (env ▸ Rec env bound) body type f (h, h) in
        elim (cases_lt m n) [
          | inl above ↦ to.let_rec_above env n by name name_at bound body some some type type above (up_to-well_formed k _ body type f (h, h)) w g j
          | inr below ↦ to.let_rec env n by name name_at bound body some type below w g j
        ]
    up_to-smaller _ _ _ (to.literal_above env n by l type above w) h = to.literal_above env n by l type (omega arith) w
    up_to-smaller _ _ _ (to.constant_above env n by id type above w) h = to.constant_above env n by id type (omega arith) w
    up_to-smaller _ _ _ (to.hole_above env n by type above w) h = to.hole_above env n by type (omega arith) w
    up_to-smaller _ _ _ (to.name_above env n by distance type above w) h = to.name_above env n by distance type (omega arith) w
    up_to-smaller _ _ _ (to.fun_above env n by body from other type above w v d) h =
        to.fun_above env n by body from other type (omega arith) w v (up_to-smaller (env ▸ Mono from) body other d (h, v))
    up_to-smaller _ _ _ (to.app_above env n by function argument one other type above w d f) h =
        to.app_above env n by function argument one other type (omega arith) w (up_to-smaller env function one d h) (up_to-smaller env argument other f h)
    up_to-smaller _ _ _ (to.let_above env n by bound body one other type above w d f) h =
        to.let_above env n by bound body one other type (omega arith) w (up_to-smaller env bound one d h) (up_to-smaller (env ▸ Def env bound) body other f (h, h))
    up_to-smaller _ _ _ (to.let_rec_above env n by name name_at bound body from one other type above w v d f) h =
        to.let_rec_above env n by name name_at bound body from one other type (omega arith) w v (up_to-smaller (env ▸ Mono from) bound one d (h, v)) (up_to-smaller (env ▸ Rec env bound) body other f (h, h))

  -- a typing is one up to any number
  module _ (k : ℕ) where
    pub ty-up_to : (env : Env) (e : Core) (type : Plain) → Ty K env e type → IsWellFormedEnv env → TyUpTo K k env e type
    ty-up_to _ _ _ (ty.literal env n by l) h =
        elim (cases_lt k n) [ inl above ↦ to.literal_above env n by l _ above (literal-well_formed l) | inr below ↦ to.literal env n by l below ]
    ty-up_to _ _ _ (ty.constant env n by id closed type has instance) h =
        elim (cases_lt k n) [
          | inl above ↦ to.constant_above env n by id type above (instance-well_formed type closed (closed-well_formed K id closed table has) instance)
          | inr below ↦ to.constant env n by id closed type below has instance
        ]
    ty-up_to _ _ _ (ty.hole env n by type w) h =
        elim (cases_lt k n) [ inl above ↦ to.hole_above env n by type above w | inr below ↦ to.hole env n by type below w ]
    ty-up_to _ _ _ (ty.name_mono env n by distance type e) h =
        elim (cases_lt k n) [
          | inl above ↦ to.name_above env n by distance type above (entry-well_formed env distance (Mono type) h e)
          | inr below ↦ to.name_mono env n by distance type below e
        ]
    ty-up_to _ _ _ (ty.name_def env n by distance inner bound type e d) h =
        let inside = entry-well_formed env distance (Def inner bound) h e in
        let f = ty-up_to inner bound type d inside in
        elim (cases_lt k n) [
          | inl above ↦ to.name_above env n by distance type above (ty-well_formed K table inner bound type d inside)
          | inr below ↦ to.name_def env n by distance inner bound type below e f
        ]
    ty-up_to _ _ _ (ty.name_rec env n by distance inner bound type e w d) h =
        let f = ty-up_to (inner ▸ Mono type) bound type d (entry-well_formed env distance (Rec inner bound) h e, w) in
        elim (cases_lt k n) [ inl above ↦ to.name_above env n by distance type above w | inr below ↦ to.name_rec env n by distance inner bound type below e w f ]
    ty-up_to _ _ _ (ty.fun env n by body from type w d) h =
        let f = ty-up_to (env ▸ Mono from) body type d (h, w) in
        elim (cases_lt k n) [
          | inl above ↦ to.fun_above env n by body from type _ above (arrow-well_formed from type w (ty-well_formed K table _ body type d (h, w))) w f
          | inr below ↦ to.fun env n by body from type below w f
        ]
    ty-up_to _ _ _ (ty.app env n by function argument from type d f) h =
        let g = ty-up_to env function (from ⇒ type) d h in
        let j = ty-up_to env argument from f h in
        elim (cases_lt k n) [
          | inl above ↦ to.app_above env n by function argument _ from type above (result-well_formed from type (ty-well_formed K table env function (from ⇒ type) d h)) g j
          | inr below ↦ to.app env n by function argument from type below g j
        ]
    ty-up_to _ _ _ (ty.let_in env n by bound body some type d f) h =
        let g = ty-up_to env bound some d h in
        let j = ty-up_to (env ▸ Def env bound) body type f (h, h) in
        elim (cases_lt k n) [
          | inl above ↦ to.let_above env n by bound body some type type above (ty-well_formed K table _ body type f (h, h)) g j
          | inr below ↦ to.let_in env n by bound body some type below g j
        ]
    ty-up_to _ _ _ (ty.let_rec env n by name name_at bound body some type w d f) h =
        let g = ty-up_to (env ▸ Mono some) bound some d (h, w) in
        let j = ty-up_to (env ▸ Rec env bound) body type f (h, h) in
        elim (cases_lt k n) [
          | inl above ↦ to.let_rec_above env n by name name_at bound body some some type type above (ty-well_formed K table _ body type f (h, h)) w g j
          | inr below ↦ to.let_rec env n by name name_at bound body some type below w g j
        ]
