use Rattle.std.specs.Prelude.{◌≡◌, ℕ, ◌+◌, ◌<◌, ◌⊎◌, List, Option, Some, None, slice_get}
use Rattle.std.specs.Option.{option_map, option_and_then}
use Rattle.vt_dec.specs.declared.side.Side.{Side}
use Rattle.vt_dec.specs.declared.side.Side.TheVariants.{Left, Right}
use Rattle.vt_type.specs.declared.plain.Plain.{Plain}
use Rattle.vt_type.specs.declared.plain.Plain as plain
use Rattle.vt_type.specs.declared.plain.PlainKids.{PlainKids}
use Rattle.vt_type.specs.declared.plain.PlainKids as kids
use Rattle.vt_type.specs.declared.vtype.VType.{VType, Var, Con, Choice', Err}
use Rattle.vt_type.specs.declared.vtype.VKids.{VKids, Nil, More', end_of-VType, more_of-VType, end_of-VKids, more_of-VKids}
use Rattle.vt_type.specs.declared.vtype.Selected.{Selected}
use Rattle.vt_type.specs.declared.vtype.Selected.TheVariants.{Found, Untyped}
use Rattle.vt_type.specs.Plain.{arity, kids_of, IsWellFormed}

-- A variational type is a plain one, in which choices and the error may stand too.

-- a first child before the others
pattern abbrev pub vkids_of : VType → VKids → VKids
vkids_of kid kids = More' tt (more_of-VType kid end_of-VType) tt (more_of-VKids kids end_of-VKids)

-- a choice between two types by a dimension
pattern abbrev pub choice : ℕ → VType → VType → VType
choice dim left right = Choice' dim tt (more_of-VType left end_of-VType) tt (more_of-VType right end_of-VType)

-- how many children there are
abbrev pub vkid_count : VKids → ℕ
vkid_count Nil = 0
vkid_count (vkids_of kid kids) = 1 + vkid_count kids

-- how many dimensions a file may have
abbrev pub most_dimensions : ℕ
most_dimensions = 64

-- each head has as many children as its arity, and each dimension is one of a file's
abbrev mutual
  pub IsWellFormedV : VType → Type 0
  IsWellFormedV (Var name) = Unit {0}
  IsWellFormedV (Con top kids) = (vkid_count kids ≡ arity top) × AreWellFormedV kids
  IsWellFormedV (choice dim left right) = (dim < most_dimensions) × IsWellFormedV left × IsWellFormedV right
  IsWellFormedV Err = Unit {0}

  pub AreWellFormedV : VKids → Type 0
  AreWellFormedV Nil = Unit {0}
  AreWellFormedV (vkids_of kid kids) = IsWellFormedV kid × AreWellFormedV kids

-- every choice, head, variable and error counts as one node
abbrev mutual
  pub nodes : VType → ℕ
  nodes (Var name) = 1
  nodes (Con top kids) = 1 + vkids_nodes kids
  nodes (choice dim left right) = 1 + (nodes left + nodes right)
  nodes Err = 1

  pub vkids_nodes : VKids → ℕ
  vkids_nodes Nil = 0
  vkids_nodes (vkids_of kid kids) = nodes kid + vkids_nodes kids

-- the error stands in the type
abbrev mutual
  pub HasError : VType → Type 0
  HasError (Var name) = ⊥
  HasError (Con top kids) = SomeHasError kids
  HasError (choice dim left right) = HasError left ⊎ HasError right
  HasError Err = Unit {0}

  pub SomeHasError : VKids → Type 0
  SomeHasError Nil = ⊥
  SomeHasError (vkids_of kid kids) = HasError kid ⊎ SomeHasError kids

-- the first or the second by the side that is taken
abbrev pub by_side : {A : Type 0} → Option Side → A → A → A
by_side (Some Left) left right = left
by_side (Some Right) left right = right
by_side None left right = left

-- What a type is at a decision: each choice is the alternative that the decision takes. Where the
-- error stands in what is left, the whole is the error, which is None.
abbrev mutual
  pub selected : List Side → VType → Option Plain
  selected decision (Var name) = Some (plain.Var name)
  selected decision (Con top kids) = option_map (plain.Con top) (kids_selected decision kids)
  selected decision (choice dim left right) = by_side (slice_get decision dim) (selected decision left) (selected decision right)
  selected decision Err = None

  pub kids_selected : List Side → VKids → Option PlainKids
  kids_selected decision Nil = Some kids.Nil
  kids_selected decision (vkids_of kid others) =
      option_and_then (λ first. option_map (kids_of first) (kids_selected decision others)) (selected decision kid)

-- a plain type or the error, as a call answers it
abbrev pub answer : Option Plain → Selected
answer (Some type) = Found type
answer None = Untyped

-- a selected type is well formed, and so is the error
abbrev pub IsWellFormedSelected : Selected → Type 0
IsWellFormedSelected (Found type) = IsWellFormed type
IsWellFormedSelected Untyped = Unit {0}

-- what stands under the choices at the root of a type, on the sides that a decision takes
abbrev pub root_at : List Side → VType → VType
root_at decision (choice dim left right) = by_side (slice_get decision dim) (root_at decision left) (root_at decision right)
root_at decision other = other
