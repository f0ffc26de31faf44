use Rattle.std.proofs.Common.{◌≡◌, ℕ, zero, suc, ◌≤◌, List, [], ◌∷◌, ◌++◌, length, Contains, slice_get, refl, ap, sym, ◌∙◌, arith, append_assoc, length-append, codes, Some, None}
use Rattle.std.proofs.lemmas.List.{take_at, drop_at, append-nil}
use Rattle.std.proofs.lemmas.Option.{same_Some, slice_get_within, get_or_from_slice_get}
use Rattle.vt_type.specs.declared.vtype.VType.{VType, Var}
use Rattle.vt_type.specs.Names.{AreDistinct}
use Rattle.vt_type.specs.Text.{letter}
use Rattle.vt_show.specs.Reading.{Spells, int, bool, string, error, variable, list, parentheses, either, pair, one_atom, arrow, no_arrow, renamed, by_first_path, LackBraces}
use Rattle.vt_show.specs.Steps.{Step, after, letter_at, atom_with, pair_with, arrow_with, type_at, type_of}
use Rattle.vt_show.proofs.Signs.{dim_at-front}
use Rattle.vt_show.proofs.LetterTexts.{EndsLetter, letter_length-front, number_name, number_name-letter}
use Rattle.vt_show.proofs.Renamings.{EachName, renamed-renamed, renamed-same, by_first_path-renamed}

-- What a text spells is read from it.

-- the text of a letter for its number
abbrev pub letter_name : List ℕ → List ℕ
letter_name [] = []
letter_name (n ∷ name) = letter n

abbrev pub lettered : VType → VType
lettered type = renamed letter_name type

-- a step for each level
abbrev pub level_at : List (List ℕ) → ℕ → ℕ → List ℕ → Step
level_at dims fuel zero text = arrow_with dims (type_at dims fuel) text
level_at dims fuel (suc zero) text = pair_with dims (type_at dims fuel) text
level_at dims fuel (suc (suc level)) text = atom_with dims (type_at dims fuel) text

-- what stands after a type of a level goes on with no sign that the type could take
abbrev pub Ends : ℕ → List ℕ → Type 0
Ends zero rest = EndsLetter rest × (after (codes " * ") rest ≡ None) × (after (codes " -> ") rest ≡ None)
Ends (suc zero) rest = EndsLetter rest × (after (codes " * ") rest ≡ None)
Ends (suc (suc level)) rest = EndsLetter rest

letter_at-front : (n : ℕ) (rest : List ℕ) → EndsLetter rest → letter_at (letter n ++ rest) ≡ Some (Var (letter n), rest)
letter_at-front n rest ends =
    rw (letter_length-front n rest ends, take_at (letter n) rest _ refl, drop_at (letter n) rest _ refl) refl

module _ (dims : List (List ℕ)) (distinct : AreDistinct dims) (lack : LackBraces dims) where
  name_lacks : (dim : ℕ) (name : List ℕ) → slice_get dims dim ≡ Some name → Contains name 123 → ⊥
  name_lacks dim name at =
      rw (get_or_from_slice_get dims dim name name at) at (lack dim name (slice_get_within dims dim name at))

  pub spelled_is_read : (level : ℕ) (front : List ℕ) (type : VType) → Spells dims level front type
      → (fuel : ℕ) → length front ≤ fuel → (rest : List ℕ) → Ends level rest
      → level_at dims fuel level (front ++ rest) ≡ Some (lettered type, rest)
  spelled_is_read _ _ _ int fuel room rest ends = refl
  spelled_is_read _ _ _ bool fuel room rest ends = refl
  spelled_is_read _ _ _ string fuel room rest ends = refl
  spelled_is_read _ _ _ error fuel room rest ends = refl
  spelled_is_read _ _ _ (variable n) fuel room rest ends = letter_at-front n rest ends
  spelled_is_read _ _ _ (list text item h) zero room rest ends = absurd (omega (arith, room))
  spelled_is_read _ _ _ (list text item h) (suc fuel) room rest ends =
      let inner = spelled_is_read 0 text item h fuel (omega (arith, room, length-append text (93 ∷ []))) (93 ∷ rest) (refl, refl, refl) in
      rw (append_assoc text (93 ∷ []) rest, inner) refl
  spelled_is_read _ _ _ (parentheses text type h) zero room rest ends = absurd (omega (arith, room))
  spelled_is_read _ _ _ (parentheses text type h) (suc fuel) room rest ends =
      let inner = spelled_is_read 0 text type h fuel (omega (arith, room, length-append text (41 ∷ []))) (41 ∷ rest) (refl, refl, refl) in
      rw (append_assoc text (41 ∷ []) rest, inner) refl
  spelled_is_read _ _ _ (either dim name left right one other at h k) zero room rest ends = absurd (omega (arith, room))
  spelled_is_read _ _ _ (either dim name left right one other at h k) (suc fuel) room rest ends =
      let tail = left ++ (44 ∷ 32 ∷ (right ++ (125 ∷ rest))) in
      let order : (codes "@" ++ name ++ codes "{" ++ left ++ codes ", " ++ right ++ codes "}") ++ rest ≡ 64 ∷ (name ++ 123 ∷ tail) = simp append_assoc in
      let sized = simp length-append at room in
      let found = dim_at-front dims dim name tail distinct at (name_lacks dim name at) in
      let first = spelled_is_read 0 left one h fuel (omega (arith, sized)) (44 ∷ 32 ∷ (right ++ (125 ∷ rest))) (refl, refl, refl) in
      let second = spelled_is_read 0 right other k fuel (omega (arith, sized)) (125 ∷ rest) (refl, refl, refl) in
      ap (level_at dims (suc fuel) 2) order ∙ rw (found, first, second) refl
  spelled_is_read _ _ _ (pair left right one other h k) fuel room rest ends =
      let order : (left ++ codes " * " ++ right) ++ rest ≡ left ++ (32 ∷ 42 ∷ 32 ∷ (right ++ rest)) = simp append_assoc in
      let sized = simp length-append at room in
      let first = spelled_is_read 2 left one h fuel (omega (arith, sized)) (32 ∷ 42 ∷ 32 ∷ (right ++ rest)) refl in
      let second = spelled_is_read 2 right other k fuel (omega (arith, sized)) rest ends.0 in
      ap (level_at dims fuel 1) order ∙ rw (first, second) refl
  spelled_is_read _ _ _ (one_atom text type h) fuel room rest ends =
      rw (spelled_is_read 2 text type h fuel room rest ends.0, ends.1) refl
  spelled_is_read _ _ _ (arrow left right from to h k) zero room rest ends =
      let sized = simp length-append at room in absurd (omega (arith, sized))
  spelled_is_read _ _ _ (arrow left right from to h k) (suc fuel) room rest ends =
      let order : (left ++ codes " -> " ++ right) ++ rest ≡ left ++ (32 ∷ 45 ∷ 62 ∷ 32 ∷ (right ++ rest)) = simp append_assoc in
      let sized = simp length-append at room in
      let first = spelled_is_read 1 left from h (suc fuel) (omega (arith, sized)) (32 ∷ 45 ∷ 62 ∷ 32 ∷ (right ++ rest)) (refl, refl) in
      let second = spelled_is_read 0 right to k fuel (omega (arith, sized)) rest ends in
      ap (level_at dims (suc fuel) 0) order ∙ rw (first, second) refl
  spelled_is_read _ _ _ (no_arrow text type h) fuel room rest ends =
      rw (spelled_is_read 1 text type h fuel room rest (ends.0, ends.1), ends.2) refl

  -- the whole of a text
  pub type_of-spelled : (text : List ℕ) (type : VType) → Spells dims 0 text type → type_of dims text ≡ Some (lettered type)
  type_of-spelled text type h =
      let whole = rw (append-nil text) at (spelled_is_read 0 text type h (length text) (omega arith) [] (tt, refl, refl)) in
      rw whole refl

-- each variable of a spelled type has one number for its name
pub spelled_names : (dims : List (List ℕ)) (level : ℕ) (text : List ℕ) (type : VType) → Spells dims level text type → EachName (λ name. number_name (letter_name name) ≡ name) type
spelled_names dims _ _ _ int = tt
spelled_names dims _ _ _ bool = tt
spelled_names dims _ _ _ string = tt
spelled_names dims _ _ _ error = tt
spelled_names dims _ _ _ (variable n) = number_name-letter n
spelled_names dims _ _ _ (list text item h) = (spelled_names dims 0 text item h, tt)
spelled_names dims _ _ _ (parentheses text type h) = spelled_names dims 0 text type h
spelled_names dims _ _ _ (either dim name left right one other at h k) = (spelled_names dims 0 left one h, spelled_names dims 0 right other k)
spelled_names dims _ _ _ (pair left right one other h k) = (spelled_names dims 2 left one h, (spelled_names dims 2 right other k, tt))
spelled_names dims _ _ _ (one_atom text type h) = spelled_names dims 2 text type h
spelled_names dims _ _ _ (arrow left right from to h k) = (spelled_names dims 1 left from h, (spelled_names dims 0 right to k, tt))
spelled_names dims _ _ _ (no_arrow text type h) = spelled_names dims 1 text type h

-- the letters are undone by their numbers
pub numbered-lettered : (dims : List (List ℕ)) (level : ℕ) (text : List ℕ) (type : VType) → Spells dims level text type → renamed number_name (lettered type) ≡ type
numbered-lettered dims level text type h =
    renamed-renamed number_name letter_name type ∙ renamed-same (λ name. number_name (letter_name name)) type (spelled_names dims level text type h)

-- first paths stay under letters
pub by_first_path-lettered : (dims : List (List ℕ)) (text : List ℕ) (type : VType) → Spells dims 0 text type → by_first_path (lettered type) ≡ by_first_path type
by_first_path-lettered dims text type h =
    by_first_path-renamed letter_name number_name type (spelled_names dims 0 text type h)

-- a text spells at most one type
pub one_type : (dims : List (List ℕ)) → AreDistinct dims → LackBraces dims → (text : List ℕ) (one other : VType) → Spells dims 0 text one → Spells dims 0 text other → one ≡ other
one_type dims distinct lack text one other h k =
    let same = same_Some _ _ (sym (type_of-spelled dims distinct lack text one h) ∙ type_of-spelled dims distinct lack text other k) in
    sym (numbered-lettered dims 0 text one h) ∙ ap (renamed number_name) same ∙ numbered-lettered dims 0 text other k
