use Rattle.std.specs.Prelude.{◌≡◌, ℕ, List, length, Option, Some, IfSome}
use Rattle.vt_dec.specs.declared.side.Side.{Side}
use Rattle.vt_type.specs.declared.vtype.VType.{VType}
use Rattle.vt_type.specs.Plain.{IsWellFormed}
use Rattle.vt_type.specs.Canonical.{IsCanonical}
use Rattle.vt_type.specs.Variational.{selected}
use Rattle.vt_type.specs.NormalForm.{map_of, Total, IsNormalFormOf}
use Rattle.vt_type.specs.Names.{AreDistinct}
use Rattle.vt_type.specs.Text.{text_of}
use Rattle.vt_show.specs.Reading.{Spells, IsRead, IsReadingOf, LackBraces}
use Rattle.vt_show.specs.Conditions.{DimsBelow, HasNoData}

-- A text spells at most one type, where no name of a dimension stands twice or holds a brace.
abbrev pub TextsSpellOneType : Type 0
TextsSpellOneType =
    (dims : List (List ℕ)) → AreDistinct dims → LackBraces dims
    → (text : List ℕ) (one other : VType) → Spells dims 0 text one → Spells dims 0 text other → one ≡ other

-- what a type is at each decision is canonical, or the error
abbrev pub IsCanonicalEverywhere : VType → Type 0
IsCanonicalEverywhere type =
    (decision : List Side) → Total decision → IfSome (selected decision type) (λ plain. IsWellFormed plain × IsCanonical plain)

-- The text of a normal form is read as that normal form.
abbrev pub NormalFormsAreReadBack : Type 0
NormalFormsAreReadBack =
    (dims : List (List ℕ)) (type form : VType) → IsCanonicalEverywhere type → IsNormalFormOf form (map_of type)
    → DimsBelow (length dims) form → HasNoData form → IsRead dims (text_of dims form) form

-- No reading of a text of a normal form is another.
abbrev pub NormalFormsAreReadAlone : Type 0
NormalFormsAreReadAlone =
    (dims : List (List ℕ)) (type form : VType) → AreDistinct dims → LackBraces dims
    → IsCanonicalEverywhere type → IsNormalFormOf form (map_of type)
    → DimsBelow (length dims) form → HasNoData form
    → (read : Option VType) → IsReadingOf dims (text_of dims form) read → read ≡ Some form
