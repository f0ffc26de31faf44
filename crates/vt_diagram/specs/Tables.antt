use Rattle.std.specs.Prelude.{◌≡◌, ℕ, zero, suc, ◌+◌, ◌<◌, ◌≤◌, List, Option, Some, None, length, slice_get}
use Rattle.std.specs.BTreeMap.{BTreeMap, get}
use Rattle.std.specs.declared.cmp.Ordering.{Ordering}
use Rattle.vt_dec.specs.declared.side.Side.{Side}
use Rattle.vt_diagram.specs.declared.entry.Entry.{Entry}
use Rattle.vt_diagram.specs.declared.entry.Entry.TheVariants.{Leaf, Choice}
use Rattle.vt_diagram.specs.contracts.entry.EntryOrd.TheImpl as entry_ord
use Rattle.vt_diagram.specs.Trees.{Tree, Tip, Fork, value_in, IsOrdered, by_side}
use Rattle.vt_diagram.specs.Rights.{fewest_in}

-- A table is the list of what stands under each number. Under number 0 stands the value 0.

-- the diagram of an entry, by those of the numbers in it
abbrev pub tree_of : (ℕ → Tree) → Option Entry → Tree
tree_of trees None = Tip 0
tree_of trees (Some (Leaf value)) = Tip value
tree_of trees (Some (Choice dim left right)) = Fork dim (trees left) (trees right)

-- the diagram of a number, where no way down is longer than so much
abbrev pub tree_by : List Entry → ℕ → ℕ → Tree
tree_by entries zero id = Tip 0
tree_by entries (suc most) id = tree_of (tree_by entries most) (slice_get entries id)

-- the diagram of a number
unfoldable pub tree_at : List Entry → ℕ → Tree
tree_at entries id = tree_by entries (suc id) id

-- the number is one of the table
abbrev pub Holds : List Entry → ℕ → Type 0
Holds entries id = id < length entries

-- what a diagram is at a decision
abbrev pub value_at : List Entry → ℕ → List Side → ℕ
value_at entries id decision = value_in decision (tree_at entries id)

-- every number keeps its diagram
pub record Grows (old new : List Entry) : Type 0 where
  pub more : length old ≤ length new
  pub kept : (id : ℕ) → id < length old → tree_at new id ≡ tree_at old id

-- a choice that may stand under a number
pub record IsChoice (bound : ℕ) (entries : List Entry) (id dim left right : ℕ) : Type 0 where
  pub left_in : left < id
  pub right_in : right < id
  pub differ : left ≡ right → ⊥
  pub below : dim < bound
  pub left_ordered : IsOrdered bound (dim + 1) (tree_at entries left)
  pub right_ordered : IsOrdered bound (dim + 1) (tree_at entries right)

-- what an entry owes that stands under a number; the value 0 stands under number 0 alone
abbrev pub IsEntry : ℕ → List Entry → ℕ → Entry → Type 0
IsEntry bound entries id (Leaf value) = value ≡ 0 → id ≡ 0
IsEntry bound entries id (Choice dim left right) = IsChoice bound entries id dim left right

-- the order of entries
abbrev pub entry_cmp : Entry → Entry → Ordering
entry_cmp = (entry_ord.ghosts).cmp

-- each entry owes what it owes and stands once, and the map knows under which number
pub record IsTable (bound : ℕ) (entries : List Entry) (numbers : BTreeMap Entry ℕ) : Type 0 where
  pub first : slice_get entries 0 ≡ Some (Leaf 0)
  pub sound : (id : ℕ) (entry : Entry) → slice_get entries id ≡ Some entry → IsEntry bound entries id entry
  pub known : (id : ℕ) (entry : Entry) → get entry_cmp numbers entry ≡ Some id → slice_get entries id ≡ Some entry
  pub every : (id : ℕ) (entry : Entry) → slice_get entries (suc id) ≡ Some entry → get entry_cmp numbers entry ≡ Some (suc id)

-- the fewest Rights of each diagram
pub record AreFewest (entries : List Entry) (counts : List (Option ℕ)) : Type 0 where
  pub long : length counts ≡ length entries
  pub each : (id : ℕ) → id < length entries → slice_get counts id ≡ Some (fewest_in (tree_at entries id))

pub record AreEntries (bound : ℕ) (entries : List Entry) (numbers : BTreeMap Entry ℕ) (counts : List (Option ℕ)) : Type 0 where
  pub table : IsTable bound entries numbers
  pub fewest : AreFewest entries counts

-- the number stands for the entry
pub record StandsFor (entries : List Entry) (id : ℕ) (entry : Entry) : Type 0 where
  pub within : id < length entries
  pub is : tree_at entries id ≡ tree_of (tree_at entries) (Some entry)

-- a choice by a dimension between two diagrams of a table, or the one of them where they are one
pub record IsJoined (bound : ℕ) (entries : List Entry) (dim left right id : ℕ) : Type 0 where
  pub within : id < length entries
  pub at_each : (decision : List Side) → value_at entries id decision ≡ by_side (slice_get decision dim) (value_at entries left decision) (value_at entries right decision)
  pub ordered : (from : ℕ) → from ≤ dim → IsOrdered bound from (tree_at entries id)

-- the diagram of a number is a choice between two of earlier numbers
pub record IsFork (bound : ℕ) (entries : List Entry) (id dim left right : ℕ) : Type 0 where
  pub is : tree_at entries id ≡ Fork dim (tree_at entries left) (tree_at entries right)
  pub left_in : left < id
  pub right_in : right < id
  pub below : dim < bound
  pub left_ordered : IsOrdered bound (dim + 1) (tree_at entries left)
  pub right_ordered : IsOrdered bound (dim + 1) (tree_at entries right)

-- what a diagram is at its top
abbrev pub IsTop : ℕ → List Entry → ℕ → Entry → Type 0
IsTop bound entries id (Leaf value) = tree_at entries id ≡ Tip value
IsTop bound entries id (Choice dim left right) = IsFork bound entries id dim left right
