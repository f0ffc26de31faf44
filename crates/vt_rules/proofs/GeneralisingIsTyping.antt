use Rattle.std.proofs.Common.{◌≡◌, ℕ, List, Some, subst}
use Rattle.vt_lex.specs.declared.span.Span.{Span}
use Rattle.vt_syntax.specs.declared.core_expr.Core.{Core}
use Rattle.vt_syntax.specs.declared.core_expr.Form.{Name}
use Rattle.vt_syntax.specs.CoreTrees.{core}
use Rattle.vt_type.specs.declared.plain.Plain.{Plain}
use Rattle.vt_type.specs.Plain.{IsWellFormed, substituted}
use Rattle.vt_type.specs.Constants.{Constant}
use Rattle.vt_type.proofs.Substituting.{substituted-well_formed}
use Rattle.vt_rules.specs.Env.{Env, Entry, Empty, ◌▸◌, Mono, Def, Rec, entry_at}
use Rattle.vt_rules.specs.Typing.{Ty}
use Rattle.vt_rules.specs.Typing as ty
use Rattle.vt_rules.specs.Generalising.{Schemes, Scheme, Single, Poly, Start, ◌▹◌, scheme_at, KeepsSchemes, Keeps, IsInstanceKeeping, Gen, MostGeneral, Most}
use Rattle.vt_rules.specs.Generalising as gen
use Rattle.vt_rules.proofs.Standing.{StandFor, StandsFor, start, more, single, poly_def, poly_rec, entry_of, unchanged}
use Rattle.vt_rules.proofs.Substitution.{ty-substituted}

-- What is typed with schemes is typed.
module _ (K : List Constant) where
  abbrev HasDef : Env → Core → Plain → Type 0
  HasDef env bound type = Ty K env bound type

  abbrev HasRec : Env → Core → Plain → Type 0
  HasRec env bound type = IsWellFormed type × Ty K (env ▸ Mono type) bound type

  poly-ty : (env : Env) (n : ℕ) (at : Span) (distance : ℕ) (inner : Schemes) (general type : Plain) (entry : Entry)
      → StandsFor HasDef HasRec (Poly inner general) entry → entry_at env distance ≡ Some entry → IsInstanceKeeping (λ images. KeepsSchemes images inner) type general
      → Ty K env (core n at (Name distance)) type
  poly-ty env n at distance _ _ type _ (poly_def inner own bound general h d) e i =
      let moved = ty-substituted i.images i.well_formed K own bound general d in
      let there : Ty K own bound (substituted i.images general) = subst (λ x. Ty K x bound (substituted i.images general)) (unchanged HasDef HasRec i.images inner own h i.keeps) moved in
      ty.name_def env n at distance own bound type e (subst (Ty K own bound) i.same there)
  poly-ty env n at distance _ _ type _ (poly_rec inner own bound general h d) e i =
      let moved = ty-substituted i.images i.well_formed K (own ▸ Mono general) bound general d.1 in
      let there : Ty K (own ▸ Mono (substituted i.images general)) bound (substituted i.images general) =
      subst (λ x. Ty K (x ▸ Mono (substituted i.images general)) bound (substituted i.images general)) (unchanged HasDef HasRec i.images inner own h i.keeps) moved in
      ty.name_rec env n at distance own bound type e (subst IsWellFormed i.same (substituted-well_formed i.images i.well_formed general d.0)) (subst (λ x. Ty K (own ▸ Mono x) bound x) i.same there)

  gen-ty : (schemes : Schemes) (e : Core) (type : Plain) → Gen K schemes e type → (env : Env) → StandFor HasDef HasRec schemes env → Ty K env e type
  gen-ty _ _ _ (gen.literal schemes n at l) env h = ty.literal env n at l
  gen-ty _ _ _ (gen.constant schemes n at id closed type has instance) env h = ty.constant env n at id closed type has instance
  gen-ty _ _ _ (gen.hole schemes n at type w) env h = ty.hole env n at type w
  gen-ty _ _ _ (gen.name_single schemes n at distance type e) env h =
      let (entry, f, s) = entry_of HasDef HasRec schemes env distance (Single type) h e in
      by_single entry s f
    where
      by_single : (entry : Entry) → StandsFor HasDef HasRec (Single type) entry → entry_at env distance ≡ Some entry → Ty K env (core n at (Name distance)) type
      by_single _ (single type) f = ty.name_mono env n at distance type f
  gen-ty _ _ _ (gen.name_poly schemes n at distance inner general type e i) env h =
      let (entry, f, s) = entry_of HasDef HasRec schemes env distance (Poly inner general) h e in
      poly-ty env n at distance inner general type entry s f i
  gen-ty _ _ _ (gen.fun schemes n at body from to w d) env h = ty.fun env n at body from to w (gen-ty _ body to d (env ▸ Mono from) (more schemes env (Single from) (Mono from) h (single from)))
  gen-ty _ _ _ (gen.app schemes n at function argument from to d f) env h = ty.app env n at function argument from to (gen-ty schemes function _ d env h) (gen-ty schemes argument from f env h)
  gen-ty _ _ _ (gen.let_in schemes n at bound body general type d f) env h =
      let g = gen-ty schemes bound general d env h in
      ty.let_in env n at bound body general type g (gen-ty _ body type f (env ▸ Def env bound) (more schemes env (Poly schemes general) (Def env bound) h (poly_def schemes env bound general h g)))
  gen-ty _ _ _ (gen.let_rec schemes n at name name_at bound body general type w d f) env h =
      let g = gen-ty _ bound general d (env ▸ Mono general) (more schemes env (Single general) (Mono general) h (single general)) in
      ty.let_rec env n at name name_at bound body general type w g (gen-ty _ body type f (env ▸ Rec env bound) (more schemes env (Poly schemes general) (Rec env bound) h (poly_rec schemes env bound general h (w, g))))

  pub typed_with_schemes : (e : Core) (type : Plain) → Gen K Start e type → Ty K Empty e type
  typed_with_schemes e type d = gen-ty Start e type d Empty start
