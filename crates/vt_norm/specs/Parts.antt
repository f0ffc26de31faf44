use Rattle.std.specs.Prelude.{◌≡◌, ℕ, zero, suc, ◌==◌, ◌⊎◌, if◌then◌else◌, Option, Some, None, unwrap_or}
use Rattle.vt_dec.specs.declared.side.Side.{Side}
use Rattle.vt_type.specs.declared.vtype.VType.{VType, Var, Con, Err}
use Rattle.vt_type.specs.declared.vtype.VKids.{VKids, Nil}
use Rattle.vt_type.specs.Variational.{vkids_of, choice, by_side}

-- What is left of a variational type: where a dimension takes a side, and at a child.

-- the dimension stands in the type
abbrev mutual
  pub Occurs : ℕ → VType → Type 0
  Occurs dim (Var name) = ⊥
  Occurs dim (Con top kids) = SomeOccurs dim kids
  Occurs dim (choice other left right) = (dim ≡ other) ⊎ (Occurs dim left ⊎ Occurs dim right)
  Occurs dim Err = ⊥

  pub SomeOccurs : ℕ → VKids → Type 0
  SomeOccurs dim Nil = ⊥
  SomeOccurs dim (vkids_of kid kids) = Occurs dim kid ⊎ SomeOccurs dim kids

-- each choice by the dimension is its alternative of this side
abbrev mutual
  pub restricted : ℕ → Side → VType → VType
  restricted dim side (Var name) = Var name
  restricted dim side (Con top kids) = Con top (kids_restricted dim side kids)
  restricted dim side (choice other left right) =
      if other == dim
      then by_side (Some side) (restricted dim side left) (restricted dim side right)
      else choice other (restricted dim side left) (restricted dim side right)
  restricted dim side Err = Err

  pub kids_restricted : ℕ → Side → VKids → VKids
  kids_restricted dim side Nil = Nil
  kids_restricted dim side (vkids_of kid kids) = vkids_of (restricted dim side kid) (kids_restricted dim side kids)

-- a child by its number
abbrev pub vkid_at : VKids → ℕ → Option VType
vkid_at Nil number = None
vkid_at (vkids_of kid kids) zero = Some kid
vkid_at (vkids_of kid kids) (suc number) = vkid_at kids number

-- The child of this number under the choices at the root, which stay. What has no such child stays too.
abbrev pub kid : ℕ → VType → VType
kid number (Con top kids) = unwrap_or (vkid_at kids number) (Con top kids)
kid number (choice dim left right) = choice dim (kid number left) (kid number right)
kid number other = other
