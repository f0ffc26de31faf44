use Rattle.std.specs.Prelude.{◌≡◌, ℕ, ◌+◌, ◌<◌, ◌≤◌, List, Option, Some, length, slice_get}
use Rattle.std.specs.BTreeMap.{BTreeMap, get}
use Rattle.std.specs.declared.cmp.Ordering.{Ordering}
use Rattle.vt_dec.specs.declared.side.Side.{Side}
use Rattle.vt_diagram.specs.declared.entry.Entry.{Entry}
use Rattle.vt_diagram.specs.declared.operation.Operation.{Operation}
use Rattle.vt_diagram.specs.declared.question.Question.{Question}
use Rattle.vt_diagram.specs.declared.split.Split.{Split}
use Rattle.vt_diagram.specs.declared.split.Split.TheVariants.{Values, Parts}
use Rattle.vt_diagram.specs.contracts.question.QuestionOrd.TheImpl as question_ord
use Rattle.vt_diagram.specs.Operations.{made_of}
use Rattle.vt_diagram.specs.Budgets.{IsWithin}
use Rattle.vt_diagram.specs.Trees.{IsOrdered, by_side}
use Rattle.vt_diagram.specs.Tables.{value_at, tree_at}

-- what is asked
abbrev pub question : Option ℕ → Operation → ℕ → ℕ → Question
question budget operation one other = record { budget = budget; operation = operation; one = one; other = other }

-- a diagram is what the operation makes of the two, at each decision within the budget
pub record IsAnswer (bound : ℕ) (entries : List Entry) (asked : Question) (id : ℕ) : Type 0 where
  pub first : asked.one < length entries
  pub second : asked.other < length entries
  pub within : id < length entries
  pub at_each : (decision : List Side) → IsWithin asked.budget decision → value_at entries id decision ≡ made_of asked.operation (value_at entries asked.one decision) (value_at entries asked.other decision)
  pub ordered : (from : ℕ) → IsOrdered bound from (tree_at entries asked.one) → IsOrdered bound from (tree_at entries asked.other) → IsOrdered bound from (tree_at entries id)

abbrev pub question_cmp : Question → Question → Ordering
question_cmp = (question_ord.ghosts).cmp

-- each answer that is remembered is right
abbrev pub AreKnown : ℕ → List Entry → BTreeMap Question ℕ → Type 0
AreKnown bound entries known = (asked : Question) (id : ℕ) → get question_cmp known asked ≡ Some id → IsAnswer bound entries asked id

-- a diagram is its two sides by the dimension
pub record IsCut (bound : ℕ) (entries : List Entry) (dim id left right : ℕ) : Type 0 where
  pub at_each : (decision : List Side) → value_at entries id decision ≡ by_side (slice_get decision dim) (value_at entries left decision) (value_at entries right decision)
  pub left_in : left ≤ id
  pub right_in : right ≤ id
  pub left_ordered : IsOrdered bound (dim + 1) (tree_at entries left)
  pub right_ordered : IsOrdered bound (dim + 1) (tree_at entries right)

-- two diagrams by their sides: the sides of one are lefts.0 and rights.0
pub record AreParts (bound : ℕ) (entries : List Entry) (one other dim : ℕ) (lefts rights : ℕ × ℕ) : Type 0 where
  pub first : IsCut bound entries dim one lefts.0 rights.0
  pub second : IsCut bound entries dim other lefts.1 rights.1
  pub left_less : lefts.0 + lefts.1 < one + other
  pub right_less : rights.0 + rights.1 < one + other
  pub below : dim < bound
  pub least : (from : ℕ) → IsOrdered bound from (tree_at entries one) → IsOrdered bound from (tree_at entries other) → from ≤ dim

-- two diagrams have these values at each decision within the budget
abbrev pub AreValues : List Entry → Option ℕ → ℕ → ℕ → ℕ → ℕ → Type 0
AreValues entries budget one other value own =
    (decision : List Side) → IsWithin budget decision → (value_at entries one decision ≡ value) × (value_at entries other decision ≡ own)

abbrev pub IsSplit : ℕ → List Entry → Option ℕ → ℕ → ℕ → Split → Type 0
IsSplit bound entries budget one other (Values value own) = AreValues entries budget one other value own
IsSplit bound entries budget one other (Parts dim lefts rights) = (budget ≡ Some 0 → ⊥) × AreParts bound entries one other dim lefts rights
