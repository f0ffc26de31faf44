use Rattle.std.proofs.Common.{List, refl, subst}
use Rattle.vt_syntax.specs.declared.core_expr.Core.{Core}
use Rattle.vt_syntax.specs.declared.core_expr.Lit.{Lit}
use Rattle.vt_syntax.specs.declared.core_expr.Lit.TheVariants.{Number, Quoted, Truth}
use Rattle.vt_type.specs.declared.plain.Plain.{Plain}
use Rattle.vt_type.specs.Plain.{IsWellFormed, IsInstance}
use Rattle.vt_type.specs.Constants.{Constant, IsTable, ◌⇒◌}
use Rattle.vt_type.proofs.Substituting.{substituted-well_formed}
use Rattle.vt_rules.specs.Env.{Env, Mono, Def, IsWellFormedEnv}
use Rattle.vt_rules.specs.Typing.{Ty, literal_type}
use Rattle.vt_rules.specs.Typing as ty
use Rattle.vt_rules.proofs.Entries.{entry-well_formed, closed-well_formed}

-- Where the types of an environment are well formed, those of each expression are.

pub literal-well_formed : (l : Lit) → IsWellFormed (literal_type l)
literal-well_formed (Number value) = (refl, tt)
literal-well_formed Quoted = (refl, tt)
literal-well_formed (Truth value) = (refl, tt)

pub instance-well_formed : (type general : Plain) → IsWellFormed general → IsInstance type general → IsWellFormed type
instance-well_formed type general h f = subst IsWellFormed f.same (substituted-well_formed f.images f.well_formed general h)

pub arrow-well_formed : (from to : Plain) → IsWellFormed from → IsWellFormed to → IsWellFormed (from ⇒ to)
arrow-well_formed from to h k = (refl, (h, (k, tt)))

pub result-well_formed : (from to : Plain) → IsWellFormed (from ⇒ to) → IsWellFormed to
result-well_formed from to h = h.1.1.0

module _ (K : List Constant) (table : IsTable K) where
  pub ty-well_formed : (env : Env) (e : Core) (type : Plain) → Ty K env e type → IsWellFormedEnv env → IsWellFormed type
  ty-well_formed _ _ _ (ty.literal env n at l) h = literal-well_formed l
  ty-well_formed _ _ _ (ty.constant env n at id closed type has instance) h = instance-well_formed type closed (closed-well_formed K id closed table has) instance
  ty-well_formed _ _ _ (ty.hole env n at type w) h = w
  ty-well_formed _ _ _ (ty.name_mono env n at distance type e) h = entry-well_formed env distance (Mono type) h e
  ty-well_formed _ _ _ (ty.name_def env n at distance inner bound type e d) h = ty-well_formed inner bound type d (entry-well_formed env distance (Def inner bound) h e)
  ty-well_formed _ _ _ (ty.name_rec env n at distance inner bound type e w d) h = w
  ty-well_formed _ _ _ (ty.fun env n at body from to w d) h = arrow-well_formed from to w (ty-well_formed _ body to d (h, w))
  ty-well_formed _ _ _ (ty.app env n at function argument from to d f) h = result-well_formed from to (ty-well_formed env function (from ⇒ to) d h)
  ty-well_formed _ _ _ (ty.let_in env n at bound body some type d f) h = ty-well_formed _ body type f (h, h)
  ty-well_formed _ _ _ (ty.let_rec env n at name name_at bound body some type w d f) h = ty-well_formed _ body type f (h, h)
