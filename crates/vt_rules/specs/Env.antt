use Rattle.std.specs.Prelude.{ℕ, zero, suc, List, Option, Some, None}
use Rattle.vt_syntax.specs.declared.core_expr.Core.{Core}
use Rattle.vt_type.specs.declared.plain.Plain.{Plain}
use Rattle.vt_type.specs.Plain.{IsWellFormed, substituted}

-- What is known of the names round an expression, the newest at the right end. A name that was bound by `let` is
-- known by its expression, and by the environment in which that expression stands. No scheme is kept:
-- a use of the name takes any type that the expression has.
mutual
  pub data Entry : Type 0 where
    -- bound by `fun`: this type in all its uses
    Mono : Plain → Entry
    -- bound by `let`
    Def : Env → Core → Entry
    -- bound by `let rec`
    Rec : Env → Core → Entry

  pub data Env : Type 0 where
    Empty : Env
    ◌▸◌ : Env → Entry → Env

infixl 10 ◌▸◌
-- the entry of a name, by the number of binders that stand between the name and its own
abbrev pub entry_at : Env → ℕ → Option Entry
entry_at Empty distance = None
entry_at (env ▸ entry) zero = Some entry
entry_at (env ▸ entry) (suc distance) = entry_at env distance

-- each type that a name bound by `fun` has is well formed, also within entries
abbrev mutual
  pub IsWellFormedEnv : Env → Type 0
  IsWellFormedEnv Empty = Unit {0}
  IsWellFormedEnv (env ▸ entry) = IsWellFormedEnv env × IsWellFormedEntry entry

  pub IsWellFormedEntry : Entry → Type 0
  IsWellFormedEntry (Mono type) = IsWellFormed type
  IsWellFormedEntry (Def env bound) = IsWellFormedEnv env
  IsWellFormedEntry (Rec env bound) = IsWellFormedEnv env

-- each variable replaced by its image, also within entries
abbrev mutual
  pub env_substituted : (List ℕ → Plain) → Env → Env
  env_substituted images Empty = Empty
  env_substituted images (env ▸ entry) = env_substituted images env ▸ entry_substituted images entry

  pub entry_substituted : (List ℕ → Plain) → Entry → Entry
  entry_substituted images (Mono type) = Mono (substituted images type)
  entry_substituted images (Def env bound) = Def (env_substituted images env) bound
  entry_substituted images (Rec env bound) = Rec (env_substituted images env) bound
