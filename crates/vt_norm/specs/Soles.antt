use Rattle.std.specs.Prelude.{◌≡◌, ◌⊎◌, ℕ, ◌<◌, List, Contains, Option}
use Rattle.std.specs.BTreeMap.{BTreeMap, get}
use Rattle.std.specs.List.{All}
use Rattle.std.specs.Option.{unwrap_or}
use Rattle.std.specs.Ordering.{nat_cmp}
use Rattle.vt_dec.specs.declared.side.Side.{Side}
use Rattle.vt_dec.specs.Decisions.{Agrees}
use Rattle.vt_store.specs.Ends.{Same}
use Rattle.vt_store.specs.Stores.{Cells, cell_count, ends_at}
use Rattle.vt_norm.specs.Resolving.{LeadsTo}

-- The cell through which every way of links goes.

-- a cell that has one type with the given one at each decision of the part
abbrev pub IsAhead : Cells → List (Option Side) → ℕ → ℕ → Type 0
IsAhead store part cell last = (last < cell_count store) × LeadsTo store part cell last

-- the cell to which links lead from a cell by a table, and the cell itself where the table has none
abbrev pub ahead_in : BTreeMap ℕ ℕ → ℕ → ℕ
ahead_in known cell = unwrap_or (get nat_cmp known cell) cell

-- what the table says of each cell is right
abbrev pub AreSoles : Cells → List (Option Side) → BTreeMap ℕ ℕ → Type 0
AreSoles store part known = (cell : ℕ) → cell < cell_count store → IsAhead store part cell (ahead_in known cell)

-- all of the next cells lead to the last one by the table, or it is the cell itself
abbrev pub IsAgreed : BTreeMap ℕ ℕ → ℕ → List ℕ → ℕ → Type 0
IsAgreed known cell cells last = (last ≡ cell) ⊎ (All (λ own. ahead_in known own ≡ last) cells)

-- the cell is a link to one of these at each decision of the part
pub record AreLinked (store : Cells) (part : List (Option Side)) (cell : ℕ) (cells : List ℕ) : Type 0 where
  pub within : All (λ own. own < cell_count store) cells
  pub every : (decision : List Side) → Agrees part decision → (next : ℕ) × Contains cells next × (ends_at store decision cell ≡ Same next)
