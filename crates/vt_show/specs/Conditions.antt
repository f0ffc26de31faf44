use Rattle.std.specs.Prelude.{ℕ, ◌<◌}
use Rattle.vt_type.specs.declared.head.Head.TheVariants.{Data}
use Rattle.vt_type.specs.declared.vtype.VType.{VType, Var, Con, Err}
use Rattle.vt_type.specs.declared.vtype.VKids.{VKids, Nil}
use Rattle.vt_type.specs.Variational.{vkids_of, choice}

-- each dimension of the type has a number below n
abbrev mutual
  pub DimsBelow : ℕ → VType → Type 0
  DimsBelow n (Var name) = Unit {0}
  DimsBelow n (Con top kids) = KidsDimsBelow n kids
  DimsBelow n (choice dim left right) = (dim < n) × DimsBelow n left × DimsBelow n right
  DimsBelow n Err = Unit {0}

  pub KidsDimsBelow : ℕ → VKids → Type 0
  KidsDimsBelow n Nil = Unit {0}
  KidsDimsBelow n (vkids_of kid kids) = DimsBelow n kid × KidsDimsBelow n kids

-- no declared type stands in the type
abbrev mutual
  pub HasNoData : VType → Type 0
  HasNoData (Var name) = Unit {0}
  HasNoData (Con (Data number parameters) kids) = ⊥
  HasNoData (Con top kids) = HaveNoData kids
  HasNoData (choice dim left right) = HasNoData left × HasNoData right
  HasNoData Err = Unit {0}

  pub HaveNoData : VKids → Type 0
  HaveNoData Nil = Unit {0}
  HaveNoData (vkids_of kid kids) = HasNoData kid × HaveNoData kids
