use Rattle.std.specs.Prelude.{ℕ, ◌<◌, List, [], ◌∷◌}
use Rattle.vt_syntax.specs.declared.core_expr.Core.{Core}
use Rattle.vt_type.specs.declared.plain.Plain.{Plain}
use Rattle.vt_type.specs.Plain.{IsWellFormed}
use Rattle.vt_type.specs.Constants.{Constant}
use Rattle.vt_rules.specs.Env.{Env, Entry, Empty, ◌▸◌, Mono, Def, Rec}
use Rattle.vt_rules.specs.Typing.{Ty}

-- What the names round an expression stand for, at one decision: the type of a cell, or an expression in
-- which no choice stands.
pub data Place : Type 0 where
  -- bound by `fun`
  At : (cell : ℕ) → Place
  -- bound by `let`
  Bound : (bound : Core) → Place
  -- bound by `let rec`
  Looped : (bound : Core) → Place

-- the entry of a name, from the environment in which its expression stands
abbrev pub entry_of : (ℕ → Plain) → Env → Place → Entry
entry_of s env (At cell) = Mono (s cell)
entry_of s env (Bound bound) = Def env bound
entry_of s env (Looped bound) = Rec env bound

-- The environment that places make, the newest first, where each cell has its type.
abbrev pub env_at : (ℕ → Plain) → List Place → Env
env_at s [] = Empty
env_at s (place ∷ places) = env_at s places ▸ entry_of s (env_at s places) place

-- each place that is a cell is one of the first so many
abbrev pub HasCell : ℕ → Place → Type 0
HasCell n (At cell) = cell < n
HasCell n (Bound bound) = Unit {0}
HasCell n (Looped bound) = Unit {0}

abbrev pub HaveCells : ℕ → List Place → Type 0
HaveCells n [] = Unit {0}
HaveCells n (place ∷ places) = HasCell n place × HaveCells n places

-- the cells among places, in their order
abbrev pub cells_of : List Place → List ℕ
cells_of [] = []
cells_of (At cell ∷ places) = cell ∷ cells_of places
cells_of (Bound bound ∷ places) = cells_of places
cells_of (Looped bound ∷ places) = cells_of places

-- the types that a name has that is bound by `let` or `let rec`, in the environment of its expression
abbrev pub Gives : List Constant → Env → Place → Plain → Type 0
Gives K env (At cell) type = ⊥
Gives K env (Bound bound) type = Ty K env bound type
Gives K env (Looped bound) type = IsWellFormed type × Ty K (env ▸ Mono type) bound type
