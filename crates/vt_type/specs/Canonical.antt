use Rattle.std.specs.Prelude.{◌≡◌, ℕ, ◌+◌, List, [], ◌∷◌, ◌++◌, unwrap_or}
use Rattle.std.specs.Map.{lookup}
use Rattle.std.specs.Str.{bytes_eq}
use Rattle.vt_type.specs.declared.plain.Plain.{Plain, Var, Con}
use Rattle.vt_type.specs.declared.plain.PlainKids.{PlainKids, Nil}
use Rattle.vt_type.specs.Plain.{kids_of, substituted}

-- The variables of a type from left to right, each with the path at which it stands: the child
-- numbers, counted from 0, on the way to it.
abbrev mutual
  pub occurrences : List ℕ → Plain → List (List ℕ × List ℕ)
  occurrences at (Var name) = (name, at) ∷ []
  occurrences at (Con top kids) = kids_occurrences at 0 kids

  pub kids_occurrences : List ℕ → ℕ → PlainKids → List (List ℕ × List ℕ)
  kids_occurrences at n Nil = []
  kids_occurrences at n (kids_of kid kids) = occurrences (at ++ n ∷ []) kid ++ kids_occurrences at (n + 1) kids

-- the path with which a name stands first in a list, or the name itself
abbrev pub first_name : List (List ℕ × List ℕ) → List ℕ → List ℕ
first_name places name = unwrap_or (lookup (bytes_eq name) places) name

-- the variable named so
abbrev pub first_of : List (List ℕ × List ℕ) → List ℕ → Plain
first_of places name = Var (first_name places name)

-- each name is found with the same path in both lists, or in neither
abbrev pub FindsAs : List (List ℕ × List ℕ) → List (List ℕ × List ℕ) → Type 0
FindsAs one other = (name : List ℕ) → lookup (bytes_eq name) one ≡ lookup (bytes_eq name) other

-- where a variable stands first; its own name where it stands nowhere
abbrev pub first_path : Plain → List ℕ → List ℕ
first_path type name = first_name (occurrences [] type) name

-- the type with each variable named by the path of its first occurrence
abbrev pub canonical : Plain → Plain
canonical type = substituted (λ name. Var (first_path type name)) type

abbrev pub IsCanonical : Plain → Type 0
IsCanonical type = canonical type ≡ type
