use Rattle.std.specs.Prelude.{◌≡◌, ℕ, ◌*◌, ◌<◌, List, [], ◌∷◌, length}
use Rattle.std.specs.List.{All}
use Rattle.vt_dec.specs.declared.side.Side.{Side}
use Rattle.vt_dec.specs.declared.side.Side.TheVariants.{Left, Right}
use Rattle.vt_dec.specs.Decisions.{Region, Admits, Narrows}
use Rattle.vt_type.specs.declared.plain.Plain.{Plain}
use Rattle.vt_store.specs.Stores.{Cells, cell_count, ends_at}
use Rattle.vt_unify.specs.Walks.{CanSplit}
use Rattle.vt_unify.specs.Comparisons.{IsSameMade}

-- Two cells that are to be equal at each decision of a context.
pub record Equation : Type 0 where
  pub within : Region
  pub left : ℕ
  pub right : ℕ

-- the equation holds in a solution, if it speaks of the decision
abbrev pub HoldsAt : List Side → (ℕ → Plain) → Equation → Type 0
HoldsAt decision s equation = Admits equation.within decision → s equation.left ≡ s equation.right

-- every equation holds
abbrev pub HoldAt : List Side → (ℕ → Plain) → List Equation → Type 0
HoldAt decision s equations = All (HoldsAt decision s) equations

-- the equation is one of cells, over decisions of the store's space, of which it has one
pub record IsPosed (N : ℕ) (store : Cells) (equation : Equation) : Type 0 where
  pub left : equation.left < cell_count store
  pub right : equation.right < cell_count store
  pub space : equation.within.space ≡ store.space
  pub sized : length equation.within.sides ≡ 64 * N
  pub some : (decision : List Side) × Admits equation.within decision

-- the equation speaks of decisions of the region alone
abbrev pub IsInside : Region → Equation → Type 0
IsInside region equation = (decision : List Side) → Admits equation.within decision → Admits region decision

-- the equation in another context
abbrev pub equation_in : Equation → Region → Equation
equation_in equation within = record equation { within = within }

-- each cell of a first list is to be equal to that of a second list at its place
abbrev pub equations_of : Region → List ℕ → List ℕ → List Equation
equations_of within [] rights = []
equations_of within (left ∷ lefts) [] = []
equations_of within (left ∷ lefts) (right ∷ rights) = record { within = within; left = left; right = right } ∷ equations_of within lefts rights

-- What takes the place of an equation: nothing, the equation on either side of a dimension, or an
-- equation for each child of two equal heads.
pub data Replaces (N : ℕ) (store : Cells) (equation : Equation) : List Equation → Type 0 where
  nothing : Replaces N store equation []
  halves : (dim : ℕ) (right left : Region) → CanSplit N equation.within dim → Narrows equation.within dim Right right → Narrows equation.within dim Left left
      → Replaces N store equation (equation_in equation right ∷ equation_in equation left ∷ [])
  parts : (lefts rights : List ℕ) → ((decision : List Side) → Admits equation.within decision → IsSameMade (ends_at store decision) equation.left equation.right lefts rights)
      → Replaces N store equation (equations_of equation.within lefts rights)
