use Rattle.std.specs.Prelude.{◌≡◌, ℕ, List, Some, slice_get, unwrap_or}
use Rattle.std.specs.BTreeMap.{BTreeMap, get}
use Rattle.std.specs.Ordering.{nat_cmp}
use Rattle.vt_dec.specs.declared.side.Side.{Side}
use Rattle.vt_diagram.specs.declared.entry.Entry.{Entry}
use Rattle.vt_diagram.specs.Tables.{Holds, tree_at, value_at}
use Rattle.vt_diagram.specs.Trees.{IsOrdered}

-- Diagrams of another table, with each value replaced.

-- what stands for a value: its name, or the value itself where the names end before it
abbrev pub name_of : List ℕ → ℕ → ℕ
name_of names value = unwrap_or (slice_get names value) value

-- at each decision a diagram has the name of what one of another table has
pub record IsRenamed (bound : ℕ) (names : List ℕ) (others entries : List Entry) (id own : ℕ) : Type 0 where
  pub held : Holds others id
  pub within : Holds entries own
  pub at_each : (decision : List Side) → value_at entries own decision ≡ name_of names (value_at others id decision)
  pub ordered : (from : ℕ) → IsOrdered bound from (tree_at others id) → IsOrdered bound from (tree_at entries own)

-- each that is remembered is right
abbrev pub AreRenamed : ℕ → List ℕ → List Entry → List Entry → BTreeMap ℕ ℕ → Type 0
AreRenamed bound names others entries known = (id own : ℕ) → get nat_cmp known id ≡ Some own → IsRenamed bound names others entries id own
