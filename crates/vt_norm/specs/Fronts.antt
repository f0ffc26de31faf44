use Rattle.std.specs.Prelude.{◌≡◌, ℕ, ◌<◌, ◌⊎◌, List, [], ◌∷◌, map, drop, length, Option, Some, None}
use Rattle.std.specs.Option.{option_map}
use Rattle.std.specs.List.{All}
use Rattle.vt_dec.specs.declared.side.Side.{Side}
use Rattle.vt_type.specs.declared.plain.Plain.{Plain}
use Rattle.vt_type.specs.declared.plain.Plain as plain
use Rattle.vt_type.specs.declared.plain.PlainKids.{PlainKids}
use Rattle.vt_type.specs.declared.plain.PlainKids as kids
use Rattle.vt_type.specs.Plain.{arity, substituted}
use Rattle.vt_type.specs.Variational.{by_side}
use Rattle.vt_type.specs.Canonical.{occurrences, first_of}
use Rattle.vt_type.specs.NormalForm.{Map}
use Rattle.vt_store.specs.Ends.{CellEnd, Free}
use Rattle.vt_store.specs.Solutions.{plain_kids, Solves}
use Rattle.vt_norm.specs.declared.front.Spot.{Spot}
use Rattle.vt_norm.specs.declared.front.Spot.TheVariants.{Made, Open, Wrong}
use Rattle.vt_norm.specs.declared.front.Front.{Front, Leaf, Node', end_of-Front, more_of-Front}
use Rattle.vt_norm.specs.Sides.{taken_side}

-- What stands at one place of the type that a cell reads as, as a tree of decisions.

-- a node between two fronts
pattern abbrev pub node : ℕ → Front → Front → Front
node dim left right = Node' dim tt (more_of-Front left end_of-Front) tt (more_of-Front right end_of-Front)

-- the leaf that is come to by the sides of all dimensions
abbrev pub by_sides : (ℕ → Side) → Front → Spot
by_sides sides (Leaf spot) = spot
by_sides sides (node dim left right) = by_side (Some (sides dim)) (by_sides sides left) (by_sides sides right)

-- what stands there at a decision
abbrev pub spot_at : List Side → Front → Spot
spot_at decision front = by_sides (taken_side decision) front

-- it names only cells below a number
abbrev pub HasCells : ℕ → Spot → Type 0
HasCells count (Made head kids) = All (λ kid. kid < count) kids
HasCells count (Open cell) = cell < count
HasCells count Wrong = Unit {0}

abbrev pub HaveCells : ℕ → Front → Type 0
HaveCells count (Leaf spot) = HasCells count spot
HaveCells count (node dim left right) = HaveCells count left × HaveCells count right

-- one of two by the side of a dimension, which may be one
abbrev pub IsJoinedFront : ℕ → Front → Front → Front → Type 0
IsJoinedFront dim left right front = (front ≡ node dim left right) ⊎ ((front ≡ left) × (left ≡ right))

-- a head has as many children as its arity, and an open cell is open
abbrev pub IsSpot : (ℕ → CellEnd) → Spot → Type 0
IsSpot e (Made head kids) = length kids ≡ arity head
IsSpot e (Open cell) = e cell ≡ Free
IsSpot e Wrong = Unit {0}

-- the type where each cell has its type; none at the error
abbrev pub spot_type : (ℕ → Plain) → Spot → Option Plain
spot_type s (Made head kids) = Some (plain.Con head (plain_kids (map s kids)))
spot_type s (Open cell) = Some (s cell)
spot_type s Wrong = None

-- what a cell is: in each solution its type is the type of the spot
pub record IsSpotOf (n : ℕ) (e : ℕ → CellEnd) (cell : ℕ) (spot : Spot) : Type 0 where
  pub right : IsSpot e spot
  pub same : (s : ℕ → Plain) → Solves n e s → spot_type s spot ≡ Some (s cell)

-- the types of the children from this number on
abbrev pub spot_kids : ℕ → (ℕ → Plain) → Spot → PlainKids
spot_kids number s (Made head kids) = plain_kids (map s (drop number kids))
spot_kids number s (Open cell) = kids.Nil
spot_kids number s Wrong = kids.Nil

-- the variables of a type with the paths at which they stand, below a way; none of the error
abbrev pub occurring : List ℕ → Option Plain → List (List ℕ × List ℕ)
occurring way None = []
occurring way (Some type) = occurrences way type

-- Each open cell is a variable named by its number, and all cells have types that fit.
pub record IsTyping (n : ℕ) (e : ℕ → CellEnd) (s : ℕ → Plain) : Type 0 where
  pub solves : Solves n e s
  pub open_cells : (cell : ℕ) → cell < n → e cell ≡ Free → s cell ≡ plain.Var (cell ∷ [])

-- types for the cells, and the variables of the whole type with their paths, at each decision
abbrev pub Typing : Type 0
Typing = List Side → ℕ → Plain

abbrev pub Naming : Type 0
Naming = List Side → List (List ℕ × List ℕ)

-- The outcome at each decision: the type with each variable named by where it stands first in the
-- whole, or the error.
abbrev pub outcome : Typing → Naming → Front → List Side → Option Plain
outcome types names front decision =
    option_map (substituted (first_of (names decision))) (spot_type (types decision) (spot_at decision front))

abbrev pub map_at : Typing → Naming → Front → Map
map_at types names front decision found = outcome types names front decision ≡ found
