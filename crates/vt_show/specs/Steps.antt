use Rattle.std.specs.Prelude.{ℕ, zero, suc, ◌+◌, ◌==◌, ◌&&◌, nat_le, Bool, false, not, if◌then◌else◌, List, [], ◌∷◌, take, drop, length, position, codes, Option, Some, None}
use Rattle.std.specs.Option.{option_and_then}
use Rattle.std.specs.List.{prefix_len}
use Rattle.std.specs.Str.{bytes_eq}
use Rattle.vt_type.specs.declared.head.Head.{Head}
use Rattle.vt_type.specs.declared.head.Head.TheVariants.{Int, Bool as Truth, Text, List as ListOf, Pair, Fun}
use Rattle.vt_type.specs.declared.vtype.VType.{VType, Var, Con, Err}
use Rattle.vt_type.specs.declared.vtype.VKids.{Nil}
use Rattle.vt_type.specs.Variational.{vkids_of, choice}

-- Reading on lists: what each step of the reader answers, which is what it read and what is left of
-- the text. A variable has the text of its letter for its name. That this is the reading of what
-- `Spells` says is a theorem.
abbrev pub Step : Type 0
Step = Option (VType × List ℕ)

infixl 10 ◌>>=◌
abbrev pub ◌>>=◌ : {A B : Type 0} → Option A → (A → Option B) → Option B
o >>= f = option_and_then f o

-- what follows from a value, or something else where there is none
abbrev pub or_else : {A B : Type 0} → Option A → (A → B) → B → B
or_else (Some x) f other = f x
or_else None f other = other

-- what stands after a sign at the front
abbrev pub after : List ℕ → List ℕ → Option (List ℕ)
after [] text = Some text
after (c ∷ sign) [] = None
after (c ∷ sign) (byte ∷ text) = if byte == c then after sign text else None

abbrev pub is_digit : ℕ → Bool
is_digit byte = nat_le 48 byte && nat_le byte 57

abbrev pub is_small_letter : ℕ → Bool
is_small_letter byte = nat_le 97 byte && nat_le byte 122

-- a zero at the front
abbrev pub has_zero : List ℕ → Bool
has_zero [] = false
has_zero (byte ∷ text) = byte == 48

-- how long the letter at the front is: a quote, a small letter, and a number or nothing
abbrev pub letter_length : List ℕ → Option ℕ
letter_length [] = None
letter_length (quote ∷ []) = None
letter_length (quote ∷ small ∷ text) =
    if quote == 39 && is_small_letter small && not (has_zero text) then Some (2 + prefix_len is_digit text) else None

abbrev pub letter_at : List ℕ → Step
letter_at text = do
  n ← letter_length text
  Some (Var (take n text), drop n text)

-- a type that is one word or sign
abbrev pub word_at : List ℕ → Step
word_at text =
    or_else (after (codes "Int") text) (λ rest. Some (Con Int Nil, rest))
    (or_else (after (codes "Bool") text) (λ rest. Some (Con Truth Nil, rest))
    (or_else (after (codes "String") text) (λ rest. Some (Con Text Nil, rest))
    (or_else (after (codes "!") text) (λ rest. Some (Err, rest)) None)))

-- the name up to the brace, and what stands after it
abbrev pub name_at : List ℕ → Option (List ℕ × List ℕ)
name_at text = do
  n ← position (λ byte. byte == 123) text
  Some (take n text, drop (n + 1) text)

-- the dimension of that name, and what stands after the brace
abbrev pub dim_at : List (List ℕ) → List ℕ → Option (ℕ × List ℕ)
dim_at dims text = do
  name ← name_at text
  dim ← position (bytes_eq name.0) dims
  Some (dim, name.1)

-- a head over one or two types
abbrev pub one : Head → VType → VType
one top kid = Con top (vkids_of kid Nil)

abbrev pub two : Head → VType → VType → VType
two top left right = Con top (vkids_of left (vkids_of right Nil))

-- Forms with types within them, which `read` reads.
module _ (dims : List (List ℕ)) (read : List ℕ → Step) where
  -- after the bracket
  abbrev pub list_with : List ℕ → Step
  list_with text = do
    item ← read text
    rest ← after (codes "]") item.1
    Some (one ListOf item.0, rest)

  -- after the parenthesis
  abbrev pub inside_with : List ℕ → Step
  inside_with text = do
    type ← read text
    rest ← after (codes ")") type.1
    Some (type.0, rest)

  -- after the sign of a dimension
  abbrev pub choice_with : List ℕ → Step
  choice_with text = do
    dim ← dim_at dims text
    left ← read dim.1
    middle ← after (codes ", ") left.1
    right ← read middle
    rest ← after (codes "}") right.1
    Some (choice dim.0 left.0 right.0, rest)

  abbrev pub atom_with : List ℕ → Step
  atom_with text =
      or_else (word_at text) (λ found. Some found)
      (or_else (after (codes "[") text) list_with
      (or_else (after (codes "(") text) inside_with
      (or_else (after (codes "@") text) choice_with
      (letter_at text))))

  abbrev pub pair_with : List ℕ → Step
  pair_with text = do
    left ← atom_with text
    or_else (after (codes " * ") left.1) (λ text. do
      right ← atom_with text
      Some (two Pair left.0 right.0, right.1)) (Some left)

  abbrev pub arrow_with : List ℕ → Step
  arrow_with text = do
    from ← pair_with text
    or_else (after (codes " -> ") from.1) (λ text. do
      to ← read text
      Some (two Fun from.0 to.0, to.1)) (Some from)

-- a type at the front of a text, which has fewer bytes than the fuel
abbrev pub type_at : List (List ℕ) → ℕ → List ℕ → Step
type_at dims zero text = None
type_at dims (suc fuel) text = arrow_with dims (type_at dims fuel) text

-- nothing is left
abbrev pub at_end : VType → List ℕ → Option VType
at_end type [] = Some type
at_end type (byte ∷ text) = None

-- the type of a whole text, each variable under the text of its letter
abbrev pub type_of : List (List ℕ) → List ℕ → Option VType
type_of dims text = do
  found ← type_at dims (suc (length text)) text
  at_end found.0 found.1
