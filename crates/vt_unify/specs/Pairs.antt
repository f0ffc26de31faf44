use Rattle.std.specs.Prelude.{◌≡◌, ℕ, ◌<◌, List, [], ◌∷◌, ◌++◌, map, Option, Some, None, length, slice_index_or}
use Rattle.std.specs.List.{All}
use Rattle.vt_dec.specs.Decisions.{Region}
use Rattle.vt_unify.specs.declared.pairs.Pair.{Pair}
use Rattle.vt_unify.specs.declared.pairs.Pairs.{Pairs}
use Rattle.vt_unify.specs.Equations.{Equation}

-- the context of a pair, by its place among those that were narrowed
abbrev pub region_of : Region → List Region → Option ℕ → Region
region_of whole narrowed None = whole
region_of whole narrowed (Some place) = slice_index_or narrowed place whole

-- the place of the context is one of those
abbrev pub IsPlace : List Region → Option ℕ → Type 0
IsPlace narrowed None = Unit {0}
IsPlace narrowed (Some place) = place < length narrowed

abbrev pub IsKnown : List Region → Pair → Type 0
IsKnown narrowed pair = IsPlace narrowed pair.context

-- what a pair stands for
abbrev pub equation_of : Region → List Region → Pair → Equation
equation_of whole narrowed pair = record { within = region_of whole narrowed pair.context; left = pair.left; right = pair.right }

abbrev pub equations_of_pairs : Region → List Region → List Pair → List Equation
equations_of_pairs whole narrowed pairs = map (equation_of whole narrowed) pairs

-- more contexts are kept
abbrev pub IsMore : List Region → List Region → Type 0
IsMore narrowed later = (more : List Region) × (later ≡ narrowed ++ more)

-- the equations that the pairs stand for
abbrev pub equations_in : {N : ℕ} → Region → Pairs N → List Equation
equations_in whole pairs = equations_of_pairs whole pairs.narrowed.items pairs.list.items

-- the context of each pair is there
abbrev pub AreKnown : {N : ℕ} → Pairs N → Type 0
AreKnown pairs = All (IsKnown pairs.narrowed.items) pairs.list.items

-- a pair for each cell of a first list and that of a second list at its place
abbrev pub pairs_of : Option ℕ → List ℕ → List ℕ → List Pair
pairs_of context [] rights = []
pairs_of context (left ∷ lefts) [] = []
pairs_of context (left ∷ lefts) (right ∷ rights) = record { context = context; left = left; right = right } ∷ pairs_of context lefts rights
