use Rattle.std.specs.Prelude.{◌≡◌, ℕ, ◌+◌, ◌<◌, Bool, Some, None}
use Rattle.vt_dec.specs.declared.side.Side.TheVariants.{Left, Right}
use Rattle.vt_type.specs.declared.vtype.VType.{VType, Var, Con, Err}
use Rattle.vt_type.specs.declared.vtype.VKids.{VKids, Nil}
use Rattle.vt_type.specs.Plain.{arity}
use Rattle.vt_type.specs.Variational.{vkids_of, choice, vkid_count, nodes, vkids_nodes}
use Rattle.vt_norm.specs.declared.root.Top.TheVariants.{Made, Named, Wrong}
use Rattle.vt_norm.specs.Parts.{restricted, kid}
use Rattle.vt_norm.specs.Diagrams.{diagram, least, first}

-- The first type comes from the second by the steps of the normal form. Where the root of the second
-- depends on a dimension, it is a choice by the least such one, between what comes from the second on
-- either side; otherwise it is the root over what comes from the children.
abbrev mutual
  pub Normalizes : Bool → VType → VType → Type 0
  Normalizes careful (Var name) type = (least (diagram careful type) ≡ None) × (first (diagram careful type) ≡ Named name)
  Normalizes careful (Con top kids) type =
      (least (diagram careful type) ≡ None) × (first (diagram careful type) ≡ Made top)
      × (vkid_count kids ≡ arity top) × KidsNormalize careful kids 0 type
  Normalizes careful (choice dim left right) type =
      (least (diagram careful type) ≡ Some dim)
      × Normalizes careful left (restricted dim Left type) × Normalizes careful right (restricted dim Right type)
  Normalizes careful Err type = (least (diagram careful type) ≡ None) × (first (diagram careful type) ≡ Wrong)

  pub KidsNormalize : Bool → VKids → ℕ → VType → Type 0
  KidsNormalize careful Nil number type = Unit {0}
  KidsNormalize careful (vkids_of one others) number type = Normalizes careful one (kid number type) × KidsNormalize careful others (number + 1) type

-- what comes from the type has more nodes than this
abbrev pub ComesBeyond : Bool → VType → ℕ → Type 0
ComesBeyond careful type room = (one : VType) × Normalizes careful one type × (room < nodes one)

-- what comes from so many children, from this number on, has more nodes than this
abbrev pub KidsComeBeyond : Bool → ℕ → ℕ → VType → ℕ → Type 0
KidsComeBeyond careful number count type room =
    (kids : VKids) × KidsNormalize careful kids number type × (vkid_count kids ≡ count) × (room < vkids_nodes kids)
