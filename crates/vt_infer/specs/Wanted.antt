use Rattle.std.specs.Prelude.{◌≡◌, ℕ, ◌<◌, List}
use Rattle.vt_dec.specs.declared.fate.Fate.{Fate}
use Rattle.vt_dec.specs.declared.fate.Fate.TheVariants.{Alive, Dead}
use Rattle.vt_syntax.specs.declared.core_expr.Core.{Core}
use Rattle.vt_type.specs.declared.plain.Plain.{Plain}
use Rattle.vt_type.specs.Plain.{IsWellFormed}
use Rattle.vt_type.specs.Constants.{Constant}
use Rattle.vt_rules.specs.Env.{Env, ◌▸◌, Mono}
use Rattle.vt_rules.specs.TypingAt.{TyAt}
use Rattle.vt_infer.specs.Places.{Place, At, Bound, Looped, env_at}
use Rattle.vt_infer.specs.Steps.{Solutions, Agree}

-- What a step of inference does to the cell of a marked hole, at one decision. Nothing here knows of a store.

-- The solutions afterwards, on the old cells, the result and the cell of the hole, are exactly an old solution with two types that
-- are related to it, the result's and the hole's.
pub record AddsAt (n m : ℕ) (A B : Solutions) (result leaf : ℕ) (P : (ℕ → Plain) → Plain → Plain → Type 0) : Type 0 where
  pub is_leaf : leaf < m
  pub related : (s : ℕ → Plain) → B s → P s (s result) (s leaf)
  pub taken : (s : ℕ → Plain) (type wanted : Plain) → A s → P s type wanted
      → (other : ℕ → Plain) × B other × Agree n s other × (other result ≡ type) × (other leaf ≡ wanted)

-- the types of an expression together with those of the marked hole, by the rules
abbrev pub TypesAtOf : List Constant → ℕ → List Place → Core → (ℕ → Plain) → Plain → Plain → Type 0
TypesAtOf K mark places e s type wanted = TyAt K mark (env_at s places) e type wanted

-- What the inference of an expression that holds the hole does where the decision stays alive: the result and the hole's cell have
-- exactly the types by the rules.
abbrev pub MarkedSteps : List Constant → (n m : ℕ) → Solutions → Solutions → (result leaf mark : ℕ) → List Place → Core → Fate → Type 0
MarkedSteps K n m A B result leaf mark places e Alive = AddsAt n m A B result leaf (TypesAtOf K mark places e)
MarkedSteps K n m A B result leaf mark places e (Dead node) = Unit {0}

-- the types that a definition has, together with those of a hole in it, in the environment of its expression
abbrev pub GivesAt : List Constant → ℕ → Env → Place → Plain → Plain → Type 0
GivesAt K mark env (At cell) type wanted = ⊥
GivesAt K mark env (Bound bound) type wanted = TyAt K mark env bound type wanted
GivesAt K mark env (Looped bound) type wanted = IsWellFormed type × TyAt K mark (env ▸ Mono type) bound type wanted
