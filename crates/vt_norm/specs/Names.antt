use Rattle.std.specs.Prelude.{◌≡◌, ℕ, List, [], ◌∷◌, ◌++◌, cond, Option, Some, None, slice_get, slice_set}
use Rattle.std.specs.Option.{unwrap_or}
use Rattle.std.specs.Map.{lookup}
use Rattle.std.specs.Str.{bytes_eq}
use Rattle.vt_dec.specs.declared.side.Side.{Side}
use Rattle.vt_dec.specs.declared.side.Side.TheVariants.{Left, Right}
use Rattle.vt_dec.specs.Decisions.{Agrees}
use Rattle.vt_norm.specs.declared.names.Met.{Met}
use Rattle.vt_norm.specs.declared.root.Top.{Top}
use Rattle.vt_norm.specs.declared.root.Top.TheVariants.{Made, Named, Wrong}
use Rattle.vt_norm.specs.declared.front.Spot.{Spot}
use Rattle.vt_norm.specs.declared.front.Spot.TheVariants as spot
use Rattle.vt_norm.specs.declared.front.Front.{Front}
use Rattle.vt_norm.specs.declared.diagram.Diagram.{Diagram, Leaf}
use Rattle.vt_norm.specs.Diagrams.{node, at}
use Rattle.vt_norm.specs.Sides.{taken_side, agrees}
use Rattle.vt_norm.specs.Fronts.{spot_at}

-- Variables are named by where they stand first. A list keeps each open cell that was met, with its
-- path and the decisions at which it was met there.

-- what was met at a decision, each variable named by the number of its cell
abbrev pub met_at : List Side → List Met → List (List ℕ × List ℕ)
met_at decision [] = []
met_at decision (entry ∷ met) =
    cond (agrees entry.part decision) ((entry.cell ∷ [], entry.path) ∷ met_at decision met) (met_at decision met)

-- where the cell was met first, or the present path
abbrev pub name_at : List Side → List Met → List ℕ → ℕ → List ℕ
name_at decision met here cell = unwrap_or (lookup (bytes_eq (cell ∷ [])) (met_at decision met)) here

-- the cell is found alike in both lists, at each decision of a part
abbrev pub FindsAlike : List (Option Side) → ℕ → List Met → List Met → Type 0
FindsAlike part cell one other =
    (decision : List Side) → Agrees part decision
    → lookup (bytes_eq (cell ∷ [])) (met_at decision one) ≡ lookup (bytes_eq (cell ∷ [])) (met_at decision other)

-- the list begins with the cell, met at some decision of the part
abbrev pub IsFirstMet : List (Option Side) → ℕ → List Met → Type 0
IsFirstMet part cell [] = Unit {0}
IsFirstMet part cell (entry ∷ met) = (entry.cell ≡ cell) × (decision : List Side) × Agrees entry.part decision × Agrees part decision

-- the other part has all decisions of the one
abbrev pub Holds : List (Option Side) → List (Option Side) → Type 0
Holds part other = (decision : List Side) → Agrees part decision → Agrees other decision

-- a diagram asks only what is open
abbrev pub IsOpenTree : List (Option Side) → Diagram → Type 0
IsOpenTree part (Leaf top) = Unit {0}
IsOpenTree part (node dim left right) =
    (slice_get part dim ≡ Some None) × IsOpenTree (slice_set part dim (Some Left)) left × IsOpenTree (slice_set part dim (Some Right)) right

-- the name of the cell at each decision of the part
pub record IsNamedTree (part : List (Option Side)) (met : List Met) (here : List ℕ) (cell : ℕ) (tree : Diagram) : Type 0 where
  pub opens : IsOpenTree part tree
  pub names : (decision : List Side) → Agrees part decision → at (taken_side decision) tree ≡ Named (name_at decision met here cell)

-- what a spot is at the root of a type, where open cells have these names
abbrev pub top_of : (ℕ → List ℕ) → Spot → Top
top_of name (spot.Made head kids) = Made head
top_of name (spot.Open cell) = Named (name cell)
top_of name spot.Wrong = Wrong

-- what stands at the root, at each decision of the part
pub record IsTopTree (part : List (Option Side)) (met : List Met) (here : List ℕ) (front : Front) (tree : Diagram) : Type 0 where
  pub opens : IsOpenTree part tree
  pub tops : (decision : List Side) → Agrees part decision → at (taken_side decision) tree ≡ top_of (name_at decision met here) (spot_at decision front)

-- what is met at a spot that is an open cell
abbrev pub noted : List ℕ → Spot → List (List ℕ × List ℕ)
noted way (spot.Made head kids) = []
noted way (spot.Open cell) = (cell ∷ [], way) ∷ []
noted way spot.Wrong = []

-- what stands at a place was noted, at each decision of the part and nowhere else
pub record IsNoted (part : List (Option Side)) (way : List ℕ) (front : Front) (old new : List Met) : Type 0 where
  pub here : (decision : List Side) → Agrees part decision → met_at decision new ≡ met_at decision old ++ noted way (spot_at decision front)
  pub others : (decision : List Side) → (Agrees part decision → ⊥) → met_at decision new ≡ met_at decision old
