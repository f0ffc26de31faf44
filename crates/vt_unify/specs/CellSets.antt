use Rattle.std.specs.Prelude.{◌≡◌, ◌↔◌, ◌⊎◌, ℕ, ◌+◌, ◌<◌, ◌≤◌, Bool, true, false, List, length}
use Rattle.std.specs.List.{All, Contains}

-- A set of cells, as the list of its members.

-- the list has one more member, or had it
abbrev pub IsInserted : Bool → ℕ → List ℕ → List ℕ → Type 0
IsInserted true cell old new = ((other : ℕ) → Contains new other ↔ (Contains old other ⊎ (cell ≡ other))) × (length new ≡ length old + 1)
IsInserted false cell old new = Contains old cell × (new ≡ old)

-- where all are below a number, there are at most so many
abbrev pub IsFew : List ℕ → Type 0
IsFew cells = (count : ℕ) → All (λ cell. cell < count) cells → length cells ≤ count
