use Rattle.std.specs.Prelude.{◌≡◌, ℕ, ◌≤◌, ◌^◌, List, [], ◌∷◌, length, map, slice_get, Option, Some, None, codes}
use Rattle.std.specs.List.{All}
use Rattle.vt_type.specs.declared.head.Head.TheVariants as head
use Rattle.vt_type.specs.declared.plain.Plain.{Plain, Var, Con}
use Rattle.vt_type.specs.declared.plain.PlainKids.{Nil}
use Rattle.vt_type.specs.Plain.{kids_of, IsWellFormed}
use Rattle.vt_type.specs.Canonical.{canonical, IsCanonical}

-- A constant of the language. Its closed type is canonical, and each use takes an instance of it.
pub record Constant : Type 0 where
  -- None where no written name reaches it
  pub name : Option (List ℕ)
  pub closed : Plain

-- the type of integers
abbrev pub int : Plain
int = Con head.Int Nil

-- the type of truth values
abbrev pub bool : Plain
bool = Con head.Bool Nil

-- the type of strings
abbrev pub string : Plain
string = Con head.Text Nil

-- lists of an item
abbrev pub list : Plain → Plain
list item = Con head.List (kids_of item Nil)

-- pairs of two
abbrev pub pair : Plain → Plain → Plain
pair left right = Con head.Pair (kids_of left (kids_of right Nil))

-- from one type to another, grouped to the right
infixr 10 ◌⇒◌
abbrev pub ◌⇒◌ : Plain → Plain → Plain
from ⇒ to = Con head.Fun (kids_of from (kids_of to Nil))

-- one variable
abbrev pub a : Plain
a = Var (0 ∷ [])

-- another one
abbrev pub b : Plain
b = Var (1 ∷ [])

-- a constant that is written by its name
abbrev pub named : List ℕ → Plain → Constant
named text type = record { name = Some text; closed = canonical type }

-- a constant that only the syntax reaches
abbrev pub unnamed : Plain → Constant
unnamed type = record { name = None; closed = canonical type }

-- The constants of the language, each at its number.
abbrev pub core_constants : List Constant
core_constants =
    unnamed (int ⇒ int ⇒ int)  -- 0: +
    ∷ unnamed (int ⇒ int ⇒ int)  -- 1: -
    ∷ unnamed (int ⇒ int ⇒ int)  -- 2: *
    ∷ unnamed (string ⇒ string ⇒ string)  -- 3: ^
    ∷ unnamed (a ⇒ a ⇒ bool)  -- 4: =
    ∷ unnamed (int ⇒ int ⇒ bool)  -- 5: <
    ∷ unnamed (a ⇒ list a ⇒ list a)  -- 6: ::
    ∷ unnamed (bool ⇒ bool ⇒ bool)  -- 7: and
    ∷ unnamed (bool ⇒ bool ⇒ bool)  -- 8: or
    ∷ named (codes "not") (bool ⇒ bool)  -- 9
    ∷ named (codes "succ") (int ⇒ int)  -- 10
    ∷ named (codes "fst") (pair a b ⇒ a)  -- 11
    ∷ named (codes "snd") (pair a b ⇒ b)  -- 12
    ∷ unnamed (a ⇒ b ⇒ pair a b)  -- 13: a pair
    ∷ unnamed (list a)  -- 14: the empty list
    ∷ unnamed (a ⇒ list a ⇒ list a)  -- 15: an item before a list
    ∷ unnamed (bool ⇒ a ⇒ a ⇒ a)  -- 16: the choice by a condition
    ∷ unnamed (list a ⇒ b ⇒ (a ⇒ list a ⇒ b) ⇒ b)  -- 17: the case of a list
    ∷ []

-- the constant of this number has this name
abbrev pub HasName : List Constant → ℕ → List ℕ → Type 0
HasName table id name = slice_get (map (λ c. c.name) table) id ≡ Some (Some name)

-- the constant of this number has this closed type
abbrev pub HasClosed : List Constant → ℕ → Plain → Type 0
HasClosed table id type = slice_get (map (λ c. c.closed) table) id ≡ Some type

-- What holds of each table of constants: no name is that of two, and closed types are well formed
-- and canonical.
pub record IsTable (table : List Constant) : Type 0 where
  pub names_differ : (one other : ℕ) (name : List ℕ) → HasName table one name → HasName table other name → one ≡ other
  pub types : All (λ c. IsWellFormed c.closed × IsCanonical c.closed) table
  pub numbered : length table ≤ 2 ^ 32
