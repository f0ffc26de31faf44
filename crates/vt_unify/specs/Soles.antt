use Rattle.std.specs.Prelude.{◌≡◌, ◌⊎◌, ℕ, List}
use Rattle.std.specs.BTreeMap.{BTreeMap, get}
use Rattle.std.specs.List.{All}
use Rattle.std.specs.Option.{unwrap_or}
use Rattle.std.specs.Ordering.{nat_cmp}
use Rattle.vt_dec.specs.Decisions.{Region}
use Rattle.vt_store.specs.Stores.{Cells}
use Rattle.vt_unify.specs.Walks.{LeadsTo}

-- the cell to which links lead from a cell by a table, and the cell itself where the table has none
abbrev pub ahead_in : BTreeMap ℕ ℕ → ℕ → ℕ
ahead_in known cell = unwrap_or (get nat_cmp known cell) cell

-- at each decision of the context links lead to where the table says
abbrev pub AreSoles : Cells → Region → BTreeMap ℕ ℕ → Type 0
AreSoles store region known = (cell : ℕ) → LeadsTo store region cell (ahead_in known cell)

-- all of the next cells lead to the last one by the table, or it is the cell itself
abbrev pub IsAgreed : BTreeMap ℕ ℕ → ℕ → List ℕ → ℕ → Type 0
IsAgreed known cell next last = (last ≡ cell) ⊎ All (λ own. ahead_in known own ≡ last) next
