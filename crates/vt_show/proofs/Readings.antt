use Rattle.std.proofs.Common.{◌≡◌, ℕ, ◌≤◌, List, length, refl, sym, subst, ap, ◌∙◌, arith, Option, Some, None}
use Rattle.std.proofs.lemmas.Option.{none-some, slice_get_within}
use Rattle.vt_type.specs.declared.vtype.VType.{VType}
use Rattle.vt_type.specs.Variational.{IsWellFormedV, most_dimensions}
use Rattle.vt_type.specs.Names.{AreDistinct}
use Rattle.vt_show.specs.Conditions.{DimsBelow}
use Rattle.vt_show.specs.Reading.{Spells, int, bool, string, error, variable, list, parentheses, either, pair, one_atom, arrow, no_arrow, by_first_path, IsReadingOf, LackBraces}
use Rattle.vt_show.specs.Steps.{type_of}
use Rattle.vt_show.proofs.Renamings.{renamed-well_formed, renamed-dims}
use Rattle.vt_show.proofs.SpelledIsRead.{letter_name, lettered, type_of-spelled, by_first_path-lettered, one_type}
use Rattle.vt_show.proofs.ReadIsSpelled.{type_of-read}

-- What the reader answers is the reading of the text.

module _ (dims : List (List ℕ)) (distinct : AreDistinct dims) (lack : LackBraces dims) (text : List ℕ) where
  pub reading_of-some : (found : VType) → type_of dims text ≡ Some found → IsReadingOf dims text (Some (by_first_path found))
  reading_of-some found h =
      let read = type_of-read dims text found h in
      (read.0, read.1, ap by_first_path read.2 ∙ by_first_path-lettered dims text read.0 read.1)

  pub reading_of-none : type_of dims text ≡ None → IsReadingOf dims text None
  reading_of-none h spelled k = none-some (lettered spelled) (sym h ∙ type_of-spelled dims distinct lack text spelled k)

  -- a text has one reading
  pub one_reading : (one other : Option VType) → IsReadingOf dims text one → IsReadingOf dims text other → one ≡ other
  one_reading None None h k = refl
  one_reading None (Some other) h k = absurd (h k.0 k.1)
  one_reading (Some one) None h k = absurd (k h.0 h.1)
  one_reading (Some one) (Some other) h k =
      ap Some (h.2 ∙ ap by_first_path (one_type dims distinct lack text h.0 k.0 h.1 k.1) ∙ sym k.2)

-- what is spelled is well formed
module _ (dims : List (List ℕ)) (few : length dims ≤ most_dimensions) where
  spelled-well_formed : (level : ℕ) (text : List ℕ) (type : VType) → Spells dims level text type → IsWellFormedV type
  spelled-well_formed _ _ _ int = (refl, tt)
  spelled-well_formed _ _ _ bool = (refl, tt)
  spelled-well_formed _ _ _ string = (refl, tt)
  spelled-well_formed _ _ _ error = tt
  spelled-well_formed _ _ _ (variable n) = tt
  spelled-well_formed _ _ _ (list text item h) = (refl, (spelled-well_formed 0 text item h, tt))
  spelled-well_formed _ _ _ (parentheses text type h) = spelled-well_formed 0 text type h
  spelled-well_formed _ _ _ (either dim name left right one other at h k) =
      let within = slice_get_within dims dim name at in
      (omega (arith, within, few), spelled-well_formed 0 left one h, spelled-well_formed 0 right other k)
  spelled-well_formed _ _ _ (pair left right one other h k) = (refl, (spelled-well_formed 2 left one h, (spelled-well_formed 2 right other k, tt)))
  spelled-well_formed _ _ _ (one_atom text type h) = spelled-well_formed 2 text type h
  spelled-well_formed _ _ _ (arrow left right from to h k) = (refl, (spelled-well_formed 1 left from h, (spelled-well_formed 0 right to k, tt)))
  spelled-well_formed _ _ _ (no_arrow text type h) = spelled-well_formed 1 text type h

  pub type_of-well_formed : (text : List ℕ) (found : VType) → type_of dims text ≡ Some found → IsWellFormedV found
  type_of-well_formed text found h =
      let read = type_of-read dims text found h in
      subst IsWellFormedV (sym read.2) (renamed-well_formed letter_name read.0 (spelled-well_formed 0 text read.0 read.1))

-- what is spelled has dimensions that have names
module _ (dims : List (List ℕ)) where
  spelled-dims : (level : ℕ) (text : List ℕ) (type : VType) → Spells dims level text type → DimsBelow (length dims) type
  spelled-dims _ _ _ int = tt
  spelled-dims _ _ _ bool = tt
  spelled-dims _ _ _ string = tt
  spelled-dims _ _ _ error = tt
  spelled-dims _ _ _ (variable n) = tt
  spelled-dims _ _ _ (list text item h) = (spelled-dims 0 text item h, tt)
  spelled-dims _ _ _ (parentheses text type h) = spelled-dims 0 text type h
  spelled-dims _ _ _ (either dim name left right one other at h k) =
      (slice_get_within dims dim name at, spelled-dims 0 left one h, spelled-dims 0 right other k)
  spelled-dims _ _ _ (pair left right one other h k) = (spelled-dims 2 left one h, (spelled-dims 2 right other k, tt))
  spelled-dims _ _ _ (one_atom text type h) = spelled-dims 2 text type h
  spelled-dims _ _ _ (arrow left right from to h k) = (spelled-dims 1 left from h, (spelled-dims 0 right to k, tt))
  spelled-dims _ _ _ (no_arrow text type h) = spelled-dims 1 text type h

  pub type_of-dims : (text : List ℕ) (found : VType) → type_of dims text ≡ Some found → DimsBelow (length dims) found
  type_of-dims text found h =
      let read = type_of-read dims text found h in
      subst (DimsBelow (length dims)) (sym read.2) (renamed-dims letter_name (length dims) read.0 (spelled-dims 0 text read.0 read.1))
