use Rattle.std.proofs.Common.{◌≡◌, ℕ, ◌<◌, Bool, true, false, List, [], ◌∷◌, ◌++◌, inl, inr, refl, ap, ◌∙◌}
use Rattle.std.proofs.lemmas.Bool.{cases_lt}
use Rattle.vt_syntax.specs.declared.core_expr.Core.{Core}
use Rattle.vt_syntax.specs.declared.core_program.CoreDef.{CoreDef}
use Rattle.vt_syntax.specs.CoreTrees.{core}
use Rattle.vt_syntax.specs.Programs.{nested, binding}
use Rattle.vt_type.specs.declared.plain.Plain.{Plain}
use Rattle.vt_type.specs.Constants.{Constant, IsTable}
use Rattle.vt_rules.specs.Env.{Env, Empty, ◌▸◌, Mono, IsWellFormedEnv}
use Rattle.vt_rules.specs.Typing.{Ty}
use Rattle.vt_rules.specs.Typing as ty
use Rattle.vt_rules.specs.TypingUpTo.{TyUpTo}
use Rattle.vt_rules.specs.TypingUpTo as to
use Rattle.vt_rules.specs.Failing.{FirstFailing}
use Rattle.vt_rules.proofs.Inversion.{of_let, of_let_rec}
use Rattle.vt_rules.proofs.InversionUpTo.{let_parts, let_rec_parts}
use Rattle.vt_rules.proofs.UpTo.{ty-up_to, up_to-well_formed}
use Rattle.vt_infer.specs.Places.{Place, entry_of, env_at, HaveCells, cells_of, Gives}
use Rattle.vt_infer.specs.Definitions.{placed, place_of, places_after, entry_with, env_with, env_after, AreTyped}

-- Definitions that have types, and what follows them.

-- one more definition at the end
pub nested-append : (defs more : List CoreDef) (rest : Core) → nested (defs ++ more) rest ≡ nested defs (nested more rest)
nested-append [] more rest = refl
nested-append (def ∷ defs) more rest = ap (λ inner. core def.node def.name_span (binding def def.recursive inner)) (nested-append defs more rest)

pub places-append : (places : List Place) (defs more : List CoreDef) → places_after places (defs ++ more) ≡ places_after (places_after places defs) more
places-append places [] more = refl
places-append places (def ∷ defs) more = places-append (place_of def ∷ places) defs more

pub typed-append : (K : List Constant) (env : Env) (defs more : List CoreDef) → AreTyped K env defs → AreTyped K (env_after env defs) more → AreTyped K env (defs ++ more)
typed-append K env [] more h k = k
typed-append K env (def ∷ defs) more h k = (h.0, typed-append K (env_with env def) defs more h.1 k)

-- the environment of definitions is that of their places, whatever the types of cells
module _ (s : ℕ → Plain) where
  entry-same : (env : Env) (def : CoreDef) (recursive : Bool) → entry_of s env (placed def recursive) ≡ entry_with env def recursive
  entry-same env def false = refl
  entry-same env def true = refl

  pub env-places : (places : List Place) (defs : List CoreDef) → env_at s (places_after places defs) ≡ env_after (env_at s places) defs
  env-places places [] = refl
  env-places places (def ∷ defs) =
      env-places (place_of def ∷ places) defs ∙ ap (λ entry. env_after (env_at s places ▸ entry) defs) (entry-same (env_at s places) def def.recursive)

-- no place of a definition is a cell
pub places-cells : (n : ℕ) (places : List Place) (defs : List CoreDef) → HaveCells n places → cells_of places ≡ []
    → HaveCells n (places_after places defs) × (cells_of (places_after places defs) ≡ [])
places-cells n places [] h e = (h, e)
places-cells n places (def ∷ defs) h e = places-cells n (place_of def ∷ places) defs (with def.recursive) (without def.recursive)
  where
    with : (recursive : Bool) → HaveCells n (placed def recursive ∷ places)
    with false = (tt, h)
    with true = (tt, h)

    without : (recursive : Bool) → cells_of (placed def recursive ∷ places) ≡ []
    without false = e
    without true = e

module _ (K : List Constant) where
  -- a definition and what follows it
  module _ (env : Env) (def : CoreDef) (rest : Core) (type : Plain) where
    one_typed : (recursive : Bool) → Ty K env (core def.node def.name_span (binding def recursive rest)) type
        → ((some : Plain) × Gives K env (placed def recursive) some) × Ty K (env ▸ entry_with env def recursive) rest type
    one_typed false d = let (some, e, f) = of_let K env def.node def.name_span def.body rest type d in ((some, e), f)
    one_typed true d = let (some, w, e, f) = of_let_rec K env def.node def.name_span def.name def.name_span def.body rest type d in ((some, (w, e)), f)

    one_types : (recursive : Bool) → ((some : Plain) × Gives K env (placed def recursive) some) → Ty K (env ▸ entry_with env def recursive) rest type
        → Ty K env (core def.node def.name_span (binding def recursive rest)) type
    one_types false (some, d) f = ty.let_in env def.node def.name_span def.body rest some type d f
    one_types true (some, d) f = ty.let_rec env def.node def.name_span def.name def.name_span def.body rest some type d.0 d.1 f

    one_up_to : (k : ℕ) (recursive : Bool) → TyUpTo K k env (core def.node def.name_span (binding def recursive rest)) type
        → (other : Plain) × TyUpTo K k (env ▸ entry_with env def recursive) rest other
    one_up_to k false d = let (one, other, e, f) = let_parts K k env def.node def.name_span def.body rest type d in (other, f)
    one_up_to k true d = let (from, one, other, w, e, f) = let_rec_parts K k env def.node def.name_span def.name def.name_span def.body rest type d in (other, f)

    one_back_up_to : IsTable K → IsWellFormedEnv env → (k : ℕ) (recursive : Bool) → ((some : Plain) × Gives K env (placed def recursive) some)
        → TyUpTo K k (env ▸ entry_with env def recursive) rest type → TyUpTo K k env (core def.node def.name_span (binding def recursive rest)) type
    one_back_up_to table h k false (some, d) f =
        elim (cases_lt k def.node) [
          | inl above ↦ to.let_above env def.node def.name_span def.body rest some type type above (up_to-well_formed K table k _ rest type f (h, h)) (ty-up_to K table k env def.body some d h) f
          | inr below ↦ to.let_in env def.node def.name_span def.body rest some type below (ty-up_to K table k env def.body some d h) f
        ]
    one_back_up_to table h k true (some, (w, d)) f =
        elim (cases_lt k def.node) [
          | inl above ↦ to.let_rec_above env def.node def.name_span def.name def.name_span def.body rest some some type type above
              (up_to-well_formed K table k _ rest type f (h, h)) w (ty-up_to K table k (env ▸ Mono some) def.body some d (h, w)) f
          | inr below ↦ to.let_rec env def.node def.name_span def.name def.name_span def.body rest some type below w (ty-up_to K table k (env ▸ Mono some) def.body some d (h, w)) f
        ]

  well_formed-with : (env : Env) (def : CoreDef) (recursive : Bool) → IsWellFormedEnv env → IsWellFormedEnv (env ▸ entry_with env def recursive)
  well_formed-with env def false h = (h, h)
  well_formed-with env def true h = (h, h)

  -- What follows definitions has a type with them exactly where they have types and it has it in their environment.
  pub chain_typed : (env : Env) (defs : List CoreDef) (rest : Core) (type : Plain) → Ty K env (nested defs rest) type → AreTyped K env defs × Ty K (env_after env defs) rest type
  chain_typed env [] rest type d = (tt, d)
  chain_typed env (def ∷ defs) rest type d =
      let (some, e) = one_typed env def (nested defs rest) type def.recursive d in
      let (all, f) = chain_typed (env_with env def) defs rest type e in
      ((some, all), f)

  pub chain_types : (env : Env) (defs : List CoreDef) (rest : Core) (type : Plain) → AreTyped K env defs → Ty K (env_after env defs) rest type → Ty K env (nested defs rest) type
  chain_types env [] rest type h d = d
  chain_types env (def ∷ defs) rest type h d =
      one_types env def (nested defs rest) type def.recursive h.0 (chain_types (env_with env def) defs rest type h.1 d)

  -- the same up to a number, where the types may be others
  pub chain_up_to : (k : ℕ) (env : Env) (defs : List CoreDef) (rest : Core) (type : Plain) → TyUpTo K k env (nested defs rest) type
      → (other : Plain) × TyUpTo K k (env_after env defs) rest other
  chain_up_to k env [] rest type d = (type, d)
  chain_up_to k env (def ∷ defs) rest type d =
      let (other, e) = one_up_to env def (nested defs rest) type k def.recursive d in
      chain_up_to k (env_with env def) defs rest other e

  pub chain_back_up_to : IsTable K → (k : ℕ) (env : Env) (defs : List CoreDef) (rest : Core) (type : Plain) → IsWellFormedEnv env
      → AreTyped K env defs → TyUpTo K k (env_after env defs) rest type → TyUpTo K k env (nested defs rest) type
  chain_back_up_to table k env [] rest type w h d = d
  chain_back_up_to table k env (def ∷ defs) rest type w h d =
      one_back_up_to env def (nested defs rest) type table w k def.recursive h.0
      (chain_back_up_to table k (env_with env def) defs rest type (well_formed-with env def def.recursive w) h.1 d)

  -- What follows definitions with types fails first where it does in their environment.
  pub chain_fails : IsTable K → (defs : List CoreDef) (rest : Core) (k : ℕ) → AreTyped K Empty defs
      → ((type : Plain) → TyUpTo K k (env_after Empty defs) rest type → ⊥)
      → ((m : ℕ) → m < k → (type : Plain) × TyUpTo K m (env_after Empty defs) rest type)
      → FirstFailing K (nested defs rest) k
  chain_fails table defs rest k h fails before = record {
    fails = λ typed. let (other, d) = chain_up_to k Empty defs rest typed.0 typed.1 in fails other d;
    before = λ m less. let (type, d) = before m less in (type, chain_back_up_to table m Empty defs rest type tt h d);
  }
