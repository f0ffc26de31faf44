use Rattle.std.proofs.Common.{◌≡◌, ℕ, List, refl, sym, ap, ◌∙◌, subst}
use Rattle.vt_syntax.specs.declared.core_expr.Core.{Core}
use Rattle.vt_syntax.specs.declared.core_expr.Form.{Literal}
use Rattle.vt_syntax.specs.declared.core_expr.Lit.{Lit}
use Rattle.vt_syntax.specs.declared.core_expr.Lit.TheVariants.{Number, Quoted, Truth}
use Rattle.vt_syntax.specs.CoreTrees.{core}
use Rattle.vt_type.specs.declared.plain.Plain.{Plain}
use Rattle.vt_type.specs.Plain.{IsWellFormed, IsInstance, substituted}
use Rattle.vt_type.specs.Constants.{Constant}
use Rattle.vt_type.proofs.Substituting.{substituted-well_formed}
use Rattle.vt_type.proofs.Renaming.{substituted-substituted}
use Rattle.vt_rules.specs.Env.{Env, Mono, Def, Rec, env_substituted}
use Rattle.vt_rules.specs.Typing.{Ty, literal_type}
use Rattle.vt_rules.specs.Typing as ty
use Rattle.vt_rules.proofs.Entries.{entry_at-substituted}

-- Typing is closed under substitution.

module _ (images : List ℕ → Plain) (well_formed : (name : List ℕ) → IsWellFormed (images name)) where
  literal-substituted : (l : Lit) → literal_type l ≡ substituted images (literal_type l)
  literal-substituted (Number value) = refl
  literal-substituted Quoted = refl
  literal-substituted (Truth value) = refl

  instance-substituted : (type general : Plain) → IsInstance type general → IsInstance (substituted images type) general
  instance-substituted type general f = record {
    images = λ name. substituted images (f.images name);
    well_formed = λ name. substituted-well_formed images well_formed (f.images name) (f.well_formed name);
    same = sym (substituted-substituted images f.images general) ∙ ap (substituted images) f.same;
  }

  pub ty-substituted : (K : List Constant) (env : Env) (e : Core) (type : Plain) → Ty K env e type → Ty K (env_substituted images env) e (substituted images type)
  ty-substituted K _ _ _ (ty.literal env n at l) =
      subst (Ty K (env_substituted images env) (core n at (Literal l))) (literal-substituted l) (ty.literal (env_substituted images env) n at l)
  ty-substituted K _ _ _ (ty.constant env n at id closed type has instance) = ty.constant _ n at id closed _ has (instance-substituted type closed instance)
  ty-substituted K _ _ _ (ty.hole env n at type w) = ty.hole _ n at _ (substituted-well_formed images well_formed type w)
  ty-substituted K _ _ _ (ty.name_mono env n at distance type e) = ty.name_mono _ n at distance _ (entry_at-substituted images env distance (Mono type) e)
  ty-substituted K _ _ _ (ty.name_def env n at distance inner bound type e d) =
      ty.name_def _ n at distance _ bound _ (entry_at-substituted images env distance (Def inner bound) e) (ty-substituted K inner bound type d)
  ty-substituted K _ _ _ (ty.name_rec env n at distance inner bound type e w d) =
      ty.name_rec _ n at distance _ bound _ (entry_at-substituted images env distance (Rec inner bound) e) (substituted-well_formed images well_formed type w) (ty-substituted K _ bound type d)
  ty-substituted K _ _ _ (ty.fun env n at body from to w d) = ty.fun _ n at body _ _ (substituted-well_formed images well_formed from w) (ty-substituted K _ body to d)
  ty-substituted K _ _ _ (ty.app env n at function argument from to d f) =
      ty.app _ n at function argument _ _ (ty-substituted K env function _ d) (ty-substituted K env argument from f)
  ty-substituted K _ _ _ (ty.let_in env n at bound body some type d f) = ty.let_in _ n at bound body _ _ (ty-substituted K env bound some d) (ty-substituted K _ body type f)
  ty-substituted K _ _ _ (ty.let_rec env n at name name_at bound body some type w d f) =
      ty.let_rec _ n at name name_at bound body _ _ (substituted-well_formed images well_formed some w) (ty-substituted K _ bound some d) (ty-substituted K _ body type f)
