use Rattle.std.specs.Prelude.{◌≡◌, ◌↔◌, ℕ, ◌<◌, ◌≤◌, List, map}
use Rattle.std.specs.List.{All}
use Rattle.vt_dec.specs.declared.fate.Fate.{Fate}
use Rattle.vt_dec.specs.declared.fate.Fate.TheVariants.{Alive, Dead}
use Rattle.vt_syntax.specs.declared.core_expr.Core.{Core}
use Rattle.vt_type.specs.declared.plain.Plain.{Plain}
use Rattle.vt_type.specs.Plain.{IsWellFormed}
use Rattle.vt_type.specs.Constants.{Constant}
use Rattle.vt_rules.specs.Typing.{Ty}
use Rattle.vt_rules.specs.TypingUpTo.{TyUpTo}
use Rattle.vt_infer.specs.Places.{Place, env_at, Gives}

-- What the steps of inference do to the solutions of a store, at one decision. Nothing here knows of a
-- store: there is a set of solutions before and one after, over the first so many cells.

abbrev pub Solutions : Type 1
Solutions = (ℕ → Plain) → Type 0

-- two solutions give the first so many cells the same types
abbrev pub Agree : ℕ → (ℕ → Plain) → (ℕ → Plain) → Type 0
Agree n s other = (cell : ℕ) → cell < n → other cell ≡ s cell

-- the types of cells are well formed
abbrev pub AreFormed : ℕ → Solutions → Type 0
AreFormed n A = (s : ℕ → Plain) → A s → (cell : ℕ) → cell < n → IsWellFormed (s cell)

-- There are more cells, and each solution is still one, on the cells that were there.
pub record Keeps (n m : ℕ) (A B : Solutions) : Type 0 where
  pub grows : n ≤ m
  pub old : (s : ℕ → Plain) → B s → A s
  pub again : (s : ℕ → Plain) → A s → (other : ℕ → Plain) × B other × Agree n s other

-- The solutions afterwards, on the old cells and the result, are exactly the pairs of an old solution and
-- of a type that is related to it.
pub record Adds (n m : ℕ) (A B : Solutions) (result : ℕ) (P : (ℕ → Plain) → Plain → Type 0) : Type 0 where
  pub grows : n ≤ m
  pub is_cell : result < m
  pub old : (s : ℕ → Plain) → B s → A s
  pub related : (s : ℕ → Plain) → B s → P s (s result)
  pub taken : (s : ℕ → Plain) (type : Plain) → A s → P s type → (other : ℕ → Plain) × B other × Agree n s other × (other result ≡ type)

-- What is left where such a relation is asked for: this, or, where no old solution is related to a type, death
-- at the node.
abbrev pub Joins : (n m : ℕ) → Solutions → Solutions → ℕ → ((ℕ → Plain) → Plain → Type 0) → ℕ → Fate → Type 0
Joins n m A B result P node Alive = Adds n m A B result P
Joins n m A B result P node (Dead own) = (own ≡ node) × ((s : ℕ → Plain) (type : Plain) → A s → P s type → ⊥)

-- What is left where two cells are to have one type: the solutions in which they have, or death at the node.
abbrev pub Equates : Solutions → Solutions → ℕ → ℕ → ℕ → Fate → Type 0
Equates A B one other node Alive = (s : ℕ → Plain) → B s ↔ (A s × (s one ≡ s other))
Equates A B one other node (Dead own) = (own ≡ node) × ((s : ℕ → Plain) → A s → s one ≡ s other → ⊥)

-- the types of an expression by the rules
abbrev pub TypesOf : List Constant → List Place → Core → (ℕ → Plain) → Plain → Type 0
TypesOf K places e s type = Ty K (env_at s places) e type

-- An expression fails first at a node: up to it there is no typing, in no environment that a solution gives,
-- and up to each smaller number there is one, in some such environment.
pub record Fails (K : List Constant) (A : Solutions) (places : List Place) (e : Core) (first node last : ℕ) : Type 0 where
  pub from : first ≤ node
  pub below : node < last
  pub fails : (s : ℕ → Plain) → A s → (type : Plain) → TyUpTo K node (env_at s places) e type → ⊥
  pub before : (k : ℕ) → k < node → (s : ℕ → Plain) × A s × (type : Plain) × TyUpTo K k (env_at s places) e type

-- What the inference of an expression does where the decision was alive: the result has exactly the types by the
-- rules; or it dies where the expression fails first.
abbrev pub Steps : List Constant → (n m : ℕ) → Solutions → Solutions → ℕ → List Place → Core → (first last : ℕ) → Fate → Type 0
Steps K n m A B result places e first last Alive = Adds n m A B result (TypesOf K places e)
Steps K n m A B result places e first last (Dead node) = Fails K A places e first node last

-- A relation of the types of some cells to a type gives a name what the rules give it, in each solution.
pub record IsPoly (K : List Constant) (n : ℕ) (A : Solutions) (allows : List Plain → Plain → Type 0) (originals : List ℕ) (place : Place) (places : List Place) : Type 0 where
  pub cells : All (λ cell. cell < n) originals
  pub exactly : (s : ℕ → Plain) → A s → (type : Plain) → allows (map s originals) type ↔ Gives K (env_at s places) place type
