use Rattle.std.specs.Prelude.{◌≡◌, ◌↔◌, ℕ, List, Option}
use Rattle.vt_dec.specs.declared.side.Side.{Side}
use Rattle.vt_type.specs.declared.head.Head.{Head}
use Rattle.vt_type.specs.declared.plain.Plain.{Plain}
use Rattle.vt_type.specs.declared.vtype.VType.{VType, Con}
use Rattle.vt_type.specs.declared.vtype.VKids.{VKids, Nil}
use Rattle.vt_type.specs.Variational.{vkids_of, choice, vkid_count, selected}
use Rattle.vt_type.specs.NormalForm.{Map, Decisions, Total, map_of, IsNormalForm, IsNormalFormOf}

-- What is proved of these definitions: the normal form of a map says what the map says, is the only
-- one, and looks at nothing else; and which choices may be written in another way.

-- ---- the normal form of a map over a set of decisions

-- a map has at most one outcome at each decision
abbrev pub IsSingleValued : Map → Type 0
IsSingleValued map = (decision : List Side) (one other : Option Plain) → map decision one → map decision other → one ≡ other

-- every decision of the set is over 64 dimensions
abbrev pub AreTotal : Decisions → Type 0
AreTotal set = (decision : List Side) → set decision → Total decision

-- what a normal form selects is an outcome of the map
abbrev pub IsSound : Map → Decisions → Type 0
IsSound map set =
    IsSingleValued map → AreTotal set
    → (type : VType) → IsNormalForm type map set → (decision : List Side) → set decision → map decision (selected decision type)

-- a map has at most one normal form over a set that has some decision
abbrev pub IsUnique : Map → Decisions → Type 0
IsUnique map set =
    IsSingleValued map → (decision : List Side) → set decision
    → (one other : VType) → IsNormalForm one map set → IsNormalForm other map set → one ≡ other

-- two sets have the same decisions
abbrev pub AreSame : Decisions → Decisions → Type 0
AreSame set others = (decision : List Side) → set decision ↔ others decision

-- two maps have the same outcomes at each decision of a set
abbrev pub AgreeOver : Decisions → Map → Map → Type 0
AgreeOver set map other = (decision : List Side) (outcome : Option Plain) → set decision → map decision outcome ↔ other decision outcome

-- a normal form is one of each map with the same outcomes, over each set with the same decisions
abbrev pub IsCongruent : Map → Decisions → Map → Decisions → Type 0
IsCongruent map set other others =
    AreSame set others → AgreeOver set map other
    → (type : VType) → IsNormalForm type map set → IsNormalForm type other others

-- ---- the normal form of a type, over all decisions

-- two types select the same at each decision
abbrev pub SelectAlike : VType → VType → Type 0
SelectAlike one other = (decision : List Side) → Total decision → selected decision one ≡ selected decision other

-- the map of a type has one outcome at each decision
abbrev pub AreSingleValued : Type 0
AreSingleValued = (type : VType) → IsSingleValued (map_of type)

-- a type and its normal form select the same
abbrev pub IsSoundForTypes : Type 0
IsSoundForTypes = (type normal : VType) → IsNormalFormOf normal (map_of type) → SelectAlike normal type

-- a type has at most one normal form
abbrev pub IsUniqueForTypes : Type 0
IsUniqueForTypes =
    (type one other : VType) → IsNormalFormOf one (map_of type) → IsNormalFormOf other (map_of type) → one ≡ other

-- types with a normal form in common select the same
abbrev pub OneFormSelectsAlike : Type 0
OneFormSelectsAlike =
    (one other normal : VType) → IsNormalFormOf normal (map_of one) → IsNormalFormOf normal (map_of other) → SelectAlike one other

-- types that select the same have their normal forms in common
abbrev pub AlikeHaveOneForm : Type 0
AlikeHaveOneForm =
    (one other : VType) → SelectAlike one other
    → (normal : VType) → IsNormalFormOf normal (map_of one) → IsNormalFormOf normal (map_of other)

-- ---- choices that may be written in another way: these hold at every list of sides

-- the children of two constructors in pairs, each pair a choice
abbrev pub choices : ℕ → VKids → VKids → VKids
choices dim Nil others = Nil
choices dim (vkids_of kid kids) Nil = Nil
choices dim (vkids_of kid kids) (vkids_of other others) = vkids_of (choice dim kid other) (choices dim kids others)

-- a choice between a type and itself is that type
abbrev pub EqualAlternativesJoin : Type 0
EqualAlternativesJoin =
    (decision : List Side) (dim : ℕ) (type : VType) → selected decision (choice dim type type) ≡ selected decision type

-- on the left side of a choice, a choice by the same dimension is its left side
abbrev pub LeftIsDecided : Type 0
LeftIsDecided =
    (decision : List Side) (dim : ℕ) (one two three : VType)
    → selected decision (choice dim (choice dim one two) three) ≡ selected decision (choice dim one three)

-- on the right side, it is its right side
abbrev pub RightIsDecided : Type 0
RightIsDecided =
    (decision : List Side) (dim : ℕ) (one two three : VType)
    → selected decision (choice dim one (choice dim two three)) ≡ selected decision (choice dim one three)

-- A choice between two constructors with one head is that head over choices between their children;
-- an error in a child of the alternative that is taken makes either the error.
abbrev pub ChoiceDistributes : Type 0
ChoiceDistributes =
    (decision : List Side) (dim : ℕ) (top : Head) (kids others : VKids) → vkid_count kids ≡ vkid_count others
    → selected decision (choice dim (Con top kids) (Con top others)) ≡ selected decision (Con top (choices dim kids others))
