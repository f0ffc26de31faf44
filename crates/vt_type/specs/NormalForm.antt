use Rattle.std.specs.Prelude.{◌≡◌, ◌≢◌, ℕ, zero, suc, ◌+◌, ◌≤◌, List, length, Option, Some, None, slice_get, slice_set}
use Rattle.vt_dec.specs.declared.side.Side.{Side}
use Rattle.vt_dec.specs.declared.side.Side.TheVariants.{Left, Right}
use Rattle.vt_type.specs.declared.head.Head.{Head}
use Rattle.vt_type.specs.declared.plain.Plain.{Plain}
use Rattle.vt_type.specs.declared.plain.Plain as plain
use Rattle.vt_type.specs.declared.plain.PlainKids.{PlainKids}
use Rattle.vt_type.specs.declared.plain.PlainKids as kids
use Rattle.vt_type.specs.declared.vtype.VType.{VType, Var, Con, Err}
use Rattle.vt_type.specs.declared.vtype.VKids.{VKids, Nil}
use Rattle.vt_type.specs.Plain.{kids_of, kid_count}
use Rattle.vt_type.specs.Variational.{vkids_of, choice, vkid_count, selected, most_dimensions}

-- A map gives each decision its outcome: a plain type, or None for the error.
abbrev pub Map : Type 1
Map = List Side → Option Plain → Type 0

-- A set of decisions.
abbrev pub Decisions : Type 1
Decisions = List Side → Type 0

-- all decisions over the dimensions of a file
abbrev pub Total : Decisions
Total decision = length decision ≡ most_dimensions

-- those of a set that take a side
abbrev pub Taking : Decisions → ℕ → Side → Decisions
Taking set dim side decision = set decision × (slice_get decision dim ≡ Some side)

-- what a variational type is at each decision
abbrev pub map_of : VType → Map
map_of type decision outcome = selected decision type ≡ outcome

-- What stands at the root of an outcome: a head with so many children, a variable, or the error.
pub data Root : Type 0 where
  Made : (top : Head) (count : ℕ) → Root
  Named : (name : List ℕ) → Root
  Wrong : Root

abbrev pub root : Option Plain → Root
root None = Wrong
root (Some (plain.Var name)) = Named name
root (Some (plain.Con top kids)) = Made top (kid_count kids)

-- the map has this root at this decision
abbrev pub HasRoot : Map → List Side → Root → Type 0
HasRoot map decision r = (outcome : Option Plain) × map decision outcome × (root outcome ≡ r)

-- all decisions of the set have this root
abbrev pub AllHaveRoot : Map → Decisions → Root → Type 0
AllHaveRoot map set r = (decision : List Side) → set decision → HasRoot map decision r

-- the root depends on the dimension: two decisions of the set that differ in it alone have two roots
abbrev pub DependsOn : Map → Decisions → ℕ → Type 0
DependsOn map set dim =
    (decision : List Side) × (slice_get decision dim ≡ Some Left)
    × set decision × set (slice_set decision dim Right)
    × (one other : Root) × HasRoot map decision one × HasRoot map (slice_set decision dim Right) other
    × (one ≢ other)

-- the least dimension on which the root depends
abbrev pub IsLeastDimension : Map → Decisions → ℕ → Type 0
IsLeastDimension map set dim = DependsOn map set dim × ((other : ℕ) → DependsOn map set other → dim ≤ other)

-- a child by its number
abbrev pub kid_at : PlainKids → ℕ → Option Plain
kid_at kids.Nil n = None
kid_at (kids_of kid others) zero = Some kid
kid_at (kids_of kid others) (suc n) = kid_at others n

-- the child of this number at each decision; a variable keeps its name
abbrev pub Kid : Map → ℕ → Map
Kid map n decision outcome =
    (top : Head) × (kids : PlainKids) × (kid : Plain)
    × map decision (Some (plain.Con top kids)) × (kid_at kids n ≡ Some kid) × (outcome ≡ Some kid)

-- The normal form of a map over a set of decisions. Where all of them have one root, it is that root
-- over the normal forms of the children; otherwise it is a choice by the least dimension on which the
-- root depends, between the normal forms over the decisions that take either side.
abbrev mutual
  pub IsNormalForm : VType → Map → Decisions → Type 0
  IsNormalForm (Var name) map set = AllHaveRoot map set (Named name)
  IsNormalForm (Con top kids) map set = AllHaveRoot map set (Made top (vkid_count kids)) × AreNormalForms kids 0 map set
  IsNormalForm (choice dim left right) map set =
      IsLeastDimension map set dim
      × IsNormalForm left map (Taking set dim Left)
      × IsNormalForm right map (Taking set dim Right)
  IsNormalForm Err map set = AllHaveRoot map set Wrong

  pub AreNormalForms : VKids → ℕ → Map → Decisions → Type 0
  AreNormalForms Nil n map set = Unit {0}
  AreNormalForms (vkids_of kid kids) n map set = IsNormalForm kid (Kid map n) set × AreNormalForms kids (n + 1) map set

-- the normal form of a map over all decisions
abbrev pub IsNormalFormOf : VType → Map → Type 0
IsNormalFormOf type map = IsNormalForm type map Total
