use Rattle.std.proofs.Common.{◌≡◌, ℕ, zero, suc, List, Some, refl, ap, subst}
use Rattle.std.proofs.lemmas.Option.{same_Some, none-some}
use Rattle.vt_syntax.specs.declared.core_expr.Core.{Core}
use Rattle.vt_type.specs.declared.plain.Plain.{Plain}
use Rattle.vt_rules.specs.Env.{Env, Entry, Empty, ◌▸◌, Mono, Def, Rec, entry_at, env_substituted, entry_substituted}
use Rattle.vt_rules.specs.Generalising.{Schemes, Scheme, Single, Poly, Start, ◌▹◌, scheme_at, KeepsSchemes, Keeps, IsInstanceKeeping, Gen, MostGeneral, Most}
use Rattle.vt_rules.specs.Generalising as gen

-- Schemes stand for an environment, where each scheme's type is, in a given sense, one of its name.
module _ (OfDef OfRec : Env → Core → Plain → Type 0) where
  mutual
    pub data StandFor : Schemes → Env → Type 0 where
      start : StandFor Start Empty
      more : (schemes : Schemes) (env : Env) (scheme : Scheme) (entry : Entry)
          → StandFor schemes env → StandsFor scheme entry → StandFor (schemes ▹ scheme) (env ▸ entry)

    pub data StandsFor : Scheme → Entry → Type 0 where
      single : (type : Plain) → StandsFor (Single type) (Mono type)
      poly_def : (schemes : Schemes) (env : Env) (bound : Core) (type : Plain)
          → StandFor schemes env → OfDef env bound type → StandsFor (Poly schemes type) (Def env bound)
      poly_rec : (schemes : Schemes) (env : Env) (bound : Core) (type : Plain)
          → StandFor schemes env → OfRec env bound type → StandsFor (Poly schemes type) (Rec env bound)

  -- what a name has on both sides
  pub entry_of : (schemes : Schemes) (env : Env) (distance : ℕ) (scheme : Scheme) → StandFor schemes env → scheme_at schemes distance ≡ Some scheme
      → (entry : Entry) × (entry_at env distance ≡ Some entry) × StandsFor scheme entry
  entry_of _ _ distance scheme start e = absurd (none-some scheme e)
  entry_of _ _ zero scheme (more schemes env other entry h s) e = (entry, refl, subst (λ x. StandsFor x entry) (same_Some other scheme e) s)
  entry_of _ _ (suc distance) scheme (more schemes env other entry h s) e = entry_of schemes env distance scheme h e

  pub scheme_of : (schemes : Schemes) (env : Env) (distance : ℕ) (entry : Entry) → StandFor schemes env → entry_at env distance ≡ Some entry
      → (scheme : Scheme) × (scheme_at schemes distance ≡ Some scheme) × StandsFor scheme entry
  scheme_of _ _ distance entry start e = absurd (none-some entry e)
  scheme_of _ _ zero entry (more schemes env scheme other h s) e = (scheme, refl, subst (λ x. StandsFor scheme x) (same_Some other entry e) s)
  scheme_of _ _ (suc distance) entry (more schemes env scheme other h s) e = scheme_of schemes env distance entry h e

  -- what is left as it is on one side is so on the other
  module _ (images : List ℕ → Plain) where
    mutual
      pub unchanged : (schemes : Schemes) (env : Env) → StandFor schemes env → KeepsSchemes images schemes → env_substituted images env ≡ env
      unchanged _ _ start keeps = refl
      unchanged _ _ (more schemes env scheme entry h s) keeps = λ j. unchanged schemes env h keeps.0 j ▸ unchanged_entry scheme entry s keeps.1 j

      pub unchanged_entry : (scheme : Scheme) (entry : Entry) → StandsFor scheme entry → gen.KeepsScheme images scheme → entry_substituted images entry ≡ entry
      unchanged_entry _ _ (single type) keeps = ap Mono keeps
      unchanged_entry _ _ (poly_def schemes env bound type h d) keeps = λ j. Def (unchanged schemes env h keeps j) bound
      unchanged_entry _ _ (poly_rec schemes env bound type h d) keeps = λ j. Rec (unchanged schemes env h keeps j) bound

    mutual
      pub keeps_schemes : (schemes : Schemes) (env : Env) → StandFor schemes env → Keeps images env → KeepsSchemes images schemes
      keeps_schemes _ _ start keeps = tt
      keeps_schemes _ _ (more schemes env scheme entry h s) keeps = (keeps_schemes schemes env h keeps.0, keeps_scheme scheme entry s keeps.1)

      pub keeps_scheme : (scheme : Scheme) (entry : Entry) → StandsFor scheme entry → gen.KeepsEntry images entry → gen.KeepsScheme images scheme
      keeps_scheme _ _ (single type) keeps = keeps
      keeps_scheme _ _ (poly_def schemes env bound type h d) keeps = keeps_schemes schemes env h keeps
      keeps_scheme _ _ (poly_rec schemes env bound type h d) keeps = keeps_schemes schemes env h keeps
