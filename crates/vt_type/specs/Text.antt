use Rattle.std.specs.Prelude.{ℕ, ◌+◌, ◌/◌, ◌%◌, nat_lt, Bool, not, if◌then◌else◌, List, [], ◌∷◌, ◌++◌, unwrap_or, slice_get, codes, map, filter, position}
use Rattle.std.specs.Int.Digits.{digits_of}
use Rattle.std.specs.Str.{bytes_eq}
use Rattle.vt_type.specs.declared.head.Head.TheVariants.{Int, Bool as Truth, Text, List as ListOf, Pair, Fun}
use Rattle.vt_type.specs.declared.vtype.VType.{VType, Var, Con, Err}
use Rattle.vt_type.specs.declared.vtype.VKids.{VKids, Nil}
use Rattle.vt_type.specs.Variational.{vkids_of, choice}

-- the variables of a type from left to right, which is the order of its text
abbrev mutual
  pub variables : VType → List (List ℕ)
  variables (Var name) = name ∷ []
  variables (Con top kids) = kids_variables kids
  variables (choice dim left right) = variables left ++ variables right
  variables Err = []

  pub kids_variables : VKids → List (List ℕ)
  kids_variables Nil = []
  kids_variables (vkids_of kid kids) = variables kid ++ kids_variables kids

-- each name once, where it stands first
abbrev pub distinct : List (List ℕ) → List (List ℕ)
distinct [] = []
distinct (name ∷ names) = name ∷ filter (λ other. not (bytes_eq name other)) (distinct names)

-- the letter of variable number n: a to z, then a1 to z1, and so on; 0 has no digits
abbrev pub letter : ℕ → List ℕ
letter n = 39 ∷ (97 + n % 26) ∷ map (λ digit. 48 + digit) (digits_of 10 (n / 26))

-- the letter of a variable, by its place among the names
abbrev pub letter_of : List (List ℕ) → List ℕ → List ℕ
letter_of names name = letter (unwrap_or (position (bytes_eq name) names) 0)

-- in parentheses where they are needed
abbrev pub wrapped : Bool → List ℕ → List ℕ
wrapped needed text = if needed then codes "(" ++ text ++ codes ")" else text

-- The text of a type at a level: 0 where any type may stand, 1 to the left of an arrow, 2 on either
-- side of a star. `dims` has the names of the dimensions, `names` the variables in their order.
abbrev pub shown : List (List ℕ) → List (List ℕ) → ℕ → VType → List ℕ
shown dims names level (Var name) = letter_of names name
shown dims names level Err = codes "!"
shown dims names level (choice dim left right) =
    codes "@" ++ unwrap_or (slice_get dims dim) [] ++ codes "{" ++ shown dims names 0 left ++ codes ", " ++ shown dims names 0 right ++ codes "}"
shown dims names level (Con Int Nil) = codes "Int"
shown dims names level (Con Truth Nil) = codes "Bool"
shown dims names level (Con Text Nil) = codes "String"
shown dims names level (Con ListOf (vkids_of item Nil)) = codes "[" ++ shown dims names 0 item ++ codes "]"
shown dims names level (Con Pair (vkids_of left (vkids_of right Nil))) =
    wrapped (nat_lt 1 level) (shown dims names 2 left ++ codes " * " ++ shown dims names 2 right)
shown dims names level (Con Fun (vkids_of from (vkids_of to Nil))) =
    wrapped (nat_lt 0 level) (shown dims names 1 from ++ codes " -> " ++ shown dims names 0 to)
shown dims names level other = []

-- the text of a type, its letters given in the order in which they appear
abbrev pub text_of : List (List ℕ) → VType → List ℕ
text_of dims type = shown dims (distinct (variables type)) 0 type
