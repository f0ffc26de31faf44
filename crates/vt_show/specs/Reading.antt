use Rattle.std.specs.Prelude.{◌≡◌, ℕ, ◌+◌, List, [], ◌∷◌, ◌++◌, Option, Some, None, slice_get, codes, Contains, All}
use Rattle.vt_type.specs.declared.head.Head.TheVariants.{Int, Bool, Text, List as ListOf, Pair, Fun}
use Rattle.vt_type.specs.declared.vtype.VType.{VType, Var, Con, Err}
use Rattle.vt_type.specs.declared.vtype.VKids.{VKids, Nil}
use Rattle.vt_type.specs.Variational.{vkids_of, choice}
use Rattle.vt_type.specs.Canonical.{first_name}
use Rattle.vt_type.specs.Text.{letter}

-- Which texts spell which types, over the names of the dimensions. The level is 0 where any type may
-- stand, 1 to the left of an arrow, 2 on either side of a star. A variable goes by the number of its
-- letter. Parentheses round a type spell that type.
pub data Spells (dims : List (List ℕ)) : ℕ → List ℕ → VType → Type 0 where
  int : Spells dims 2 (codes "Int") (Con Int Nil)
  bool : Spells dims 2 (codes "Bool") (Con Bool Nil)
  string : Spells dims 2 (codes "String") (Con Text Nil)
  error : Spells dims 2 (codes "!") Err
  variable : (n : ℕ) → Spells dims 2 (letter n) (Var (n ∷ []))
  list : (text : List ℕ) (item : VType) → Spells dims 0 text item
      → Spells dims 2 (codes "[" ++ text ++ codes "]") (Con ListOf (vkids_of item Nil))
  parentheses : (text : List ℕ) (type : VType) → Spells dims 0 text type
      → Spells dims 2 (codes "(" ++ text ++ codes ")") type
  either : (dim : ℕ) (name left right : List ℕ) (one other : VType) → slice_get dims dim ≡ Some name
      → Spells dims 0 left one → Spells dims 0 right other
      → Spells dims 2 (codes "@" ++ name ++ codes "{" ++ left ++ codes ", " ++ right ++ codes "}") (choice dim one other)
  pair : (left right : List ℕ) (one other : VType) → Spells dims 2 left one → Spells dims 2 right other
      → Spells dims 1 (left ++ codes " * " ++ right) (Con Pair (vkids_of one (vkids_of other Nil)))
  one_atom : (text : List ℕ) (type : VType) → Spells dims 2 text type → Spells dims 1 text type
  arrow : (left right : List ℕ) (from to : VType) → Spells dims 1 left from → Spells dims 0 right to
      → Spells dims 0 (left ++ codes " -> " ++ right) (Con Fun (vkids_of from (vkids_of to Nil)))
  no_arrow : (text : List ℕ) (type : VType) → Spells dims 1 text type → Spells dims 0 text type

-- the appearances of variables in the order of the text, each with the path at which it stands; choices are
-- no step of a path
abbrev mutual
  pub appearances : List ℕ → VType → List (List ℕ × List ℕ)
  appearances at (Var name) = (name, at) ∷ []
  appearances at (Con top kids) = kids_appearances at 0 kids
  appearances at (choice dim left right) = appearances at left ++ appearances at right
  appearances at Err = []

  pub kids_appearances : List ℕ → ℕ → VKids → List (List ℕ × List ℕ)
  kids_appearances at n Nil = []
  kids_appearances at n (vkids_of kid kids) = appearances (at ++ n ∷ []) kid ++ kids_appearances at (n + 1) kids

-- each variable under another name
abbrev mutual
  pub renamed : (List ℕ → List ℕ) → VType → VType
  renamed name_of (Var name) = Var (name_of name)
  renamed name_of (Con top kids) = Con top (kids_renamed name_of kids)
  renamed name_of (choice dim left right) = choice dim (renamed name_of left) (renamed name_of right)
  renamed name_of Err = Err

  pub kids_renamed : (List ℕ → List ℕ) → VKids → VKids
  kids_renamed name_of Nil = Nil
  kids_renamed name_of (vkids_of kid kids) = vkids_of (renamed name_of kid) (kids_renamed name_of kids)

-- each variable named by the path of its first appearance
abbrev pub by_first_path : VType → VType
by_first_path type = renamed (first_name (appearances [] type)) type

-- The text is read as this type: it spells one whose variables, named by the paths of their first
-- appearances, make it.
abbrev pub IsRead : List (List ℕ) → List ℕ → VType → Type 0
IsRead dims text type = (spelled : VType) × Spells dims 0 text spelled × (type ≡ by_first_path spelled)

-- what a reader answers: the type that the text is read as, or nothing where it spells none
abbrev pub IsReadingOf : List (List ℕ) → List ℕ → Option VType → Type 0
IsReadingOf dims text (Some type) = IsRead dims text type
IsReadingOf dims text None = (spelled : VType) → Spells dims 0 text spelled → ⊥

-- no name holds the brace that ends it in a text
abbrev pub LackBraces : List (List ℕ) → Type 0
LackBraces dims = All (λ name. Contains name 123 → ⊥) dims
