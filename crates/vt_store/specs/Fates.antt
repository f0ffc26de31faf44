use Rattle.std.specs.Prelude.{◌≡◌, ◌⊎◌, ℕ, ◌+◌, ◌<◌, ◌≤◌, List, Option, Some, None, slice_get}
use Rattle.vt_dec.specs.declared.side.Side.{Side}
use Rattle.vt_dec.specs.declared.fate.Fate.{Fate}
use Rattle.vt_dec.specs.declared.fate.Fate.TheVariants.{Alive, Dead}
use Rattle.vt_type.specs.Variational.{by_side}
use Rattle.vt_store.specs.Branches.{PassesChoice}
use Rattle.vt_store.specs.declared.fates.Fates.{Fates, All, Choice', end_of-Fates, more_of-Fates}

-- a choice between two diagrams by a dimension
pattern abbrev pub fates_choice : ℕ → Fates → Fates → Fates
fates_choice dim left right = Choice' dim tt (more_of-Fates left end_of-Fates) tt (more_of-Fates right end_of-Fates)

-- the fate of a decision
abbrev pub fate_in : List Side → Fates → Fate
fate_in decision (All fate) = fate
fate_in decision (fates_choice dim left right) = by_side (slice_get decision dim) (fate_in decision left) (fate_in decision right)

-- dimensions rise on every way down, from one on and below a bound
abbrev pub AreOrdered : ℕ → ℕ → Fates → Type 0
AreOrdered bound from (All fate) = Unit {0}
AreOrdered bound from (fates_choice dim left right) = (from ≤ dim) × (dim < bound) × AreOrdered bound (dim + 1) left × AreOrdered bound (dim + 1) right

-- what is alive is dead with the node, and what is dead stays
abbrev pub killed : ℕ → Fate → Fate
killed node Alive = Dead node
killed node (Dead own) = Dead own

-- all dimensions are later than what comes before the one of the root, if the root is a choice
abbrev pub AreBehind : ℕ → Option ℕ → Fates → Type 0
AreBehind bound None fates = (from : ℕ) → AreOrdered bound from fates
AreBehind bound (Some dim) fates = (dim < bound) × AreOrdered bound dim fates

-- the choices that a decision comes by
abbrev pub PassesFates : Fates → List Side → ℕ → Type 0
PassesFates (All fate) decision dim = ⊥
PassesFates (fates_choice own left right) decision dim = PassesChoice own (PassesFates left) (PassesFates right) decision dim

-- two sides that are one, and no choice
abbrev pub AreOneFate : Fates → Fates → Type 0
AreOneFate left right = (left ≡ right) × ((from : ℕ) (bound : ℕ) → AreOrdered bound from left)

-- a choice between two sides, or one of them where they are one
abbrev pub AreJoined : ℕ → Fates → Fates → Fates → Type 0
AreJoined dim left right fates = (fates ≡ fates_choice dim left right) ⊎ ((fates ≡ left) × AreOneFate left right)
