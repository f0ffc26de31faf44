use Rattle.std.specs.Prelude.{◌≡◌, ℕ, ◌+◌, List}
use Rattle.vt_type.specs.declared.head.Head.{Head}
use Rattle.vt_type.specs.declared.head.Head.TheVariants.{Int, Bool, Text, Pair, Fun, Data}
use Rattle.vt_type.specs.declared.head.Head.TheVariants as head
use Rattle.vt_type.specs.declared.plain.Plain.{Plain, Var, Con}
use Rattle.vt_type.specs.declared.plain.PlainKids.{PlainKids, Nil, More', end_of-Plain, more_of-Plain, end_of-PlainKids, more_of-PlainKids}

-- A plain type is a variable by its name, which is a list of numbers, or a head over its children.

-- a first child before the others
pattern abbrev pub kids_of : Plain → PlainKids → PlainKids
kids_of kid kids = More' tt (more_of-Plain kid end_of-Plain) tt (more_of-PlainKids kids end_of-PlainKids)

-- how many children a head has
abbrev pub arity : Head → ℕ
arity Int = 0
arity Bool = 0
arity Text = 0
arity head.List = 1
arity Pair = 2
arity Fun = 2
arity (Data number parameters) = parameters

-- how many children there are
abbrev pub kid_count : PlainKids → ℕ
kid_count Nil = 0
kid_count (kids_of kid kids) = 1 + kid_count kids

-- Each head has as many children as its arity. A type that holds itself keeps no invariant, so this
-- is said of each type that a call takes or gives, and wherever a rule takes a type from nowhere.
abbrev mutual
  pub IsWellFormed : Plain → Type 0
  IsWellFormed (Var name) = Unit {0}
  IsWellFormed (Con top kids) = (kid_count kids ≡ arity top) × AreWellFormed kids

  pub AreWellFormed : PlainKids → Type 0
  AreWellFormed Nil = Unit {0}
  AreWellFormed (kids_of kid kids) = IsWellFormed kid × AreWellFormed kids

-- every node counts as one
abbrev mutual
  pub plain_nodes : Plain → ℕ
  plain_nodes (Var name) = 1
  plain_nodes (Con top kids) = 1 + kids_nodes kids

  pub kids_nodes : PlainKids → ℕ
  kids_nodes Nil = 0
  kids_nodes (kids_of kid kids) = plain_nodes kid + kids_nodes kids

-- Each variable replaced by its image, at once.
abbrev mutual
  pub substituted : (List ℕ → Plain) → Plain → Plain
  substituted images (Var name) = images name
  substituted images (Con top kids) = Con top (kids_substituted images kids)

  pub kids_substituted : (List ℕ → Plain) → PlainKids → PlainKids
  kids_substituted images Nil = Nil
  kids_substituted images (kids_of kid kids) = kids_of (substituted images kid) (kids_substituted images kids)

-- the first comes from the second by a substitution
pub record IsInstance (special general : Plain) : Type 0 where
  pub images : List ℕ → Plain
  pub well_formed : (name : List ℕ) → IsWellFormed (images name)
  pub same : substituted images general ≡ special

-- equal up to the names of variables
abbrev pub IsRenaming : Plain → Plain → Type 0
IsRenaming one other = IsInstance one other × IsInstance other one
