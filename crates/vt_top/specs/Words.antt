use Rattle.std.specs.Prelude.{ℕ, List, [], ◌∷◌, Option, Some, None, codes, map, if◌then◌else◌, string_bytes, String}
use Rattle.std.specs.Str.{bytes_eq}

-- the texts of the words
abbrev pub texts : {A : Type 0} → List (String A) → List (List ℕ)
texts words = map string_bytes words

-- What the words ask for: the type of a file.
pub data Command : Type 0 where
  TypeOf : (file : List ℕ) → Command

-- The words are two, and the first of them is `type`.
abbrev pub command_of : List (List ℕ) → Option Command
command_of (command ∷ file ∷ []) = if bytes_eq command (codes "type") then Some (TypeOf file) else None
command_of other = None

-- the files that the words name
abbrev pub files_named : Option Command → List (List ℕ)
files_named None = []
files_named (Some (TypeOf file)) = file ∷ []
