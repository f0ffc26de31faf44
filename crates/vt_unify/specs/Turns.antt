use Rattle.std.specs.Prelude.{◌≡◌, ◌⊎◌, ◌↔◌, ℕ, ◌<◌, List, [], ◌∷◌, ◌++◌, Option, MatchOption}
use Rattle.std.specs.Option.{option_to_list}
use Rattle.vt_dec.specs.declared.side.Side.{Side}
use Rattle.vt_dec.specs.declared.fate.Fate.{Fate}
use Rattle.vt_dec.specs.declared.fate.Fate.TheVariants.{Alive, Dead}
use Rattle.std.specs.List.{All}
use Rattle.vt_dec.specs.Decisions.{Region, Admits, Narrows}
use Rattle.vt_dec.specs.declared.side.Side.TheVariants.{Left, Right}
use Rattle.vt_type.specs.declared.plain.Plain.{Plain}
use Rattle.vt_store.specs.Patterns.{FateMap, fate_at}
use Rattle.vt_store.specs.Solutions.{Solves}
use Rattle.vt_store.specs.Stores.{Cells, cell_count, ends_at}
use Rattle.vt_store.specs.Writes.{IsOf}
use Rattle.vt_unify.specs.declared.life.Life.{Life}
use Rattle.vt_unify.specs.declared.life.Life.TheVariants as life
use Rattle.vt_unify.specs.Walks.{CanSplit}
use Rattle.vt_unify.specs.Comparisons.{CanBind}
use Rattle.vt_unify.specs.Equations.{Equation, HoldAt, equation_in, IsPosed, IsInside, Replaces}

-- whether the decisions of a context are alive
abbrev pub IsLifeOf : ℕ → FateMap → Region → Life → Type 0
IsLifeOf N pattern region (life.Split dim) = CanSplit N region dim
IsLifeOf N pattern region life.Alive = (decision : List Side) → Admits region decision → fate_at pattern decision ≡ Alive
IsLifeOf N pattern region life.Dead = (decision : List Side) → Admits region decision → fate_at pattern decision ≡ Alive → ⊥

-- some solutions are left at a decision: those before, if it was alive
pub record Stays (before after : Fate) (old new : (ℕ → Plain) → Type 0) : Type 0 where
  pub fate : after ≡ before
  pub same : before ≡ Alive → (s : ℕ → Plain) → new s ↔ old s

-- none is left, and the decision is dead with the node
pub record Dies (node : ℕ) (before after : Fate) (old : (ℕ → Plain) → Type 0) : Type 0 where
  pub was : before ≡ Alive
  pub now : after ≡ Dead node
  pub none : (s : ℕ → Plain) → old s → ⊥

-- What a step does at a decision: it keeps the solutions that are left, or the decision dies for want of one.
abbrev pub Turns : ℕ → Fate → Fate → ((ℕ → Plain) → Type 0) → ((ℕ → Plain) → Type 0) → Type 0
Turns node before after old new = Stays before after old new ⊎ Dies node before after old

-- the solutions in which every equation holds
abbrev pub left_at : List Side → Cells → List Equation → (ℕ → Plain) → Type 0
left_at decision store equations s = Solves (cell_count store) (ends_at store decision) s × HoldAt decision s equations

-- what a step over equations does at each decision of the space
abbrev pub TurnsAll : (N node : ℕ) → Cells → FateMap → FateMap → List Equation → List Equation → Type 0
TurnsAll N node store before after old new =
    (decision : List Side) → IsOf N store.space decision
    → Turns node (fate_at before decision) (fate_at after decision) (left_at decision store old) (left_at decision store new)

-- the left cell of the equation can be bound to the right one, and where it can the decision is alive
pub record IsBindable (store : Cells) (pattern : FateMap) (equation : Equation) : Type 0 where
  pub binds : (decision : List Side) → Admits equation.within decision → CanBind (ends_at store decision) equation.left equation.right
  pub alive : (decision : List Side) → Admits equation.within decision → fate_at pattern decision ≡ Alive

-- other equations are added in place of one
pub record IsReplaced (N : ℕ) (store : Cells) (equation : Equation) (old new : List Equation) : Type 0 where
  pub added : List Equation
  pub replaces : Replaces N store equation added
  pub appended : new ≡ old ++ added

-- an equation in place of another one, over the same decisions, that can be bound
pub record IsOpened (store : Cells) (pattern : FateMap) (equation binding : Equation) : Type 0 where
  pub left : binding.left < cell_count store
  pub right : binding.right < cell_count store
  pub within : binding.within ≡ equation.within
  pub bindable : IsBindable store pattern binding

-- What becomes of an equation that was taken off the others: others take its place, or it is to be bound.
abbrev pub IsTurn : (N node : ℕ) → Cells → FateMap → FateMap → Equation → List Equation → List Equation → Option Equation → Type 0
IsTurn N node store before after equation old new found =
    TurnsAll N node store before after (old ++ equation ∷ []) (new ++ option_to_list found)
    × (after.space ≡ before.space)
    × MatchOption found (IsReplaced N store equation old new) (λ binding. (new ≡ old) × IsOpened store after equation binding)

-- the equation on either side of a dimension is added
pub record IsSplit (N : ℕ) (equation : Equation) (dim : ℕ) (old new : List Equation) : Type 0 where
  pub right : Region
  pub left : Region
  pub narrows_right : Narrows equation.within dim Right right
  pub narrows_left : Narrows equation.within dim Left left
  pub appended : new ≡ old ++ (equation_in equation right ∷ equation_in equation left ∷ [])

-- What becomes of a list of equations: what is left of it, and one that is to be bound, if there is one.
pub record IsWorked (N node : ℕ) (store : Cells) (before after : FateMap) (old new : List Equation) (found : Option Equation) : Type 0 where
  pub turned : TurnsAll N node store before after old (new ++ option_to_list found)
  pub posed : All (IsPosed N store) (new ++ option_to_list found)
  pub inside : (region : Region) → All (IsInside region) old → All (IsInside region) (new ++ option_to_list found)
  pub space : after.space ≡ before.space
  pub bindable : MatchOption found (new ≡ []) (IsBindable store after)
