use Rattle.std.proofs.Common.{◌≡◌, ℕ, zero, suc, ◌<◌, Bool, true, false, not, nat_lt, List, [], ◌∷◌, ◌++◌, length, get_or, slice_get, position, unwrap_or, codes, Some, refl, sym, ◌∙◌, arith, inl, inr}
use Rattle.std.specs.List.{list_any}
use Rattle.std.specs.Str.{bytes_eq}
use Rattle.std.proofs.lemmas.Bool.{cases_Bool, false≢true}
use Rattle.std.proofs.lemmas.List.Quantifiers.{position-Some}
use Rattle.std.proofs.lemmas.Map.Views.{any-filter_same}
use Rattle.std.proofs.lemmas.Option.{slice_get_cases}
use Rattle.std.proofs.lemmas.Slice.Eq.{bytes_eq-Decides}
use Rattle.vt_type.specs.declared.head.Head.TheVariants.{Int, Bool as Truth, Text, List as ListOf, Pair, Fun, Data}
use Rattle.vt_type.specs.declared.vtype.VType.{VType, Var, Con, Err}
use Rattle.vt_type.specs.declared.vtype.VKids.{VKids, Nil}
use Rattle.vt_type.specs.Variational.{vkids_of, choice, IsWellFormedV}
use Rattle.vt_type.specs.Text.{variables, kids_variables, distinct, letter, wrapped, shown}
use Rattle.vt_show.specs.Conditions.{DimsBelow, HasNoData}
use Rattle.vt_show.specs.Reading.{Spells, int, bool, string, error, variable, list, parentheses, either, pair, one_atom, arrow, no_arrow, renamed, by_first_path}
use Rattle.vt_show.proofs.Signs.{position-some}
use Rattle.vt_show.proofs.Renamings.{EachName, EachKidName, by_first_path-renamed}

-- A text of a type spells it with its variables numbered in the order in which they appear.

-- the name that is a variable's number
abbrev pub numbered : List (List ℕ) → List ℕ → List ℕ
numbered names name = unwrap_or (position (bytes_eq name) names) 0 ∷ []

abbrev pub IsLevel : ℕ → Type 0
IsLevel level = level < 3

module _ (dims : List (List ℕ)) where
  -- a type at each level, from the one where it stands alone
  atom_at : (level : ℕ) → IsLevel level → (text : List ℕ) (type : VType) → Spells dims 2 text type → Spells dims level text type
  atom_at zero low text type h = no_arrow text type (one_atom text type h)
  atom_at (suc zero) low text type h = one_atom text type h
  atom_at (suc (suc zero)) low text type h = h
  atom_at (suc (suc (suc level))) low text type h = absurd (omega (arith, low))

  pair_at : (level : ℕ) → IsLevel level → (text : List ℕ) (type : VType) → Spells dims 1 text type → Spells dims level (wrapped (nat_lt 1 level) text) type
  pair_at zero low text type h = no_arrow text type h
  pair_at (suc zero) low text type h = h
  pair_at (suc (suc zero)) low text type h = parentheses text type (no_arrow text type h)
  pair_at (suc (suc (suc level))) low text type h = absurd (omega (arith, low))

  arrow_at : (level : ℕ) → IsLevel level → (text : List ℕ) (type : VType) → Spells dims 0 text type → Spells dims level (wrapped (nat_lt 0 level) text) type
  arrow_at zero low text type h = h
  arrow_at (suc zero) low text type h = one_atom (codes "(" ++ text ++ codes ")") type (parentheses text type h)
  arrow_at (suc (suc zero)) low text type h = parentheses text type h
  arrow_at (suc (suc (suc level))) low text type h = absurd (omega (arith, low))

  name_at_number : (dim : ℕ) → dim < length dims → slice_get dims dim ≡ Some (unwrap_or (slice_get dims dim) [])
  name_at_number dim within = elim (slice_get_cases dims dim).1 [
    | inl h ↦ rw h.2 refl
    | inr h ↦ absurd (omega (arith, h.0, within))
  ]

  module _ (names : List (List ℕ)) where
    pub shown-spelled : (type : VType) (level : ℕ) → IsLevel level → IsWellFormedV type → DimsBelow (length dims) type → HasNoData type
        → Spells dims level (shown dims names level type) (renamed (numbered names) type)
    shown-spelled (Var name) level low well below plain =
        let number = unwrap_or (position (bytes_eq name) names) 0 in atom_at level low (letter number) (Var (number ∷ [])) (variable number)
    shown-spelled Err level low well below plain = atom_at level low (codes "!") Err error
    shown-spelled (choice dim left right) level low well below plain =
        let one = shown-spelled left 0 (omega arith) well.1 below.1 plain.0 in
        let other = shown-spelled right 0 (omega arith) well.2 below.2 plain.1 in
        atom_at level low _ _ (either dim (unwrap_or (slice_get dims dim) []) (shown dims names 0 left) (shown dims names 0 right) (renamed (numbered names) left) (renamed (numbered names) right) (name_at_number dim below.0) one other)
    shown-spelled (Con Int Nil) level low well below plain = atom_at level low (codes "Int") (Con Int Nil) int
    shown-spelled (Con Truth Nil) level low well below plain = atom_at level low (codes "Bool") (Con Truth Nil) bool
    shown-spelled (Con Text Nil) level low well below plain = atom_at level low (codes "String") (Con Text Nil) string
    shown-spelled (Con ListOf (vkids_of item Nil)) level low well below plain =
        atom_at level low _ _ (list (shown dims names 0 item) (renamed (numbered names) item) (shown-spelled item 0 (omega arith) well.1.0 below.0 plain.0))
    shown-spelled (Con Pair (vkids_of left (vkids_of right Nil))) level low well below plain =
        let one = shown-spelled left 2 (omega arith) well.1.0 below.0 plain.0 in
        let other = shown-spelled right 2 (omega arith) well.1.1.0 below.1.0 plain.1.0 in
        pair_at level low _ _ (pair (shown dims names 2 left) (shown dims names 2 right) (renamed (numbered names) left) (renamed (numbered names) right) one other)
    shown-spelled (Con Fun (vkids_of from (vkids_of to Nil))) level low well below plain =
        let one = shown-spelled from 1 (omega arith) well.1.0 below.0 plain.0 in
        let other = shown-spelled to 0 (omega arith) well.1.1.0 below.1.0 plain.1.0 in
        arrow_at level low _ _ (arrow (shown dims names 1 from) (shown dims names 0 to) (renamed (numbered names) from) (renamed (numbered names) to) one other)
    shown-spelled (Con Int (vkids_of kid kids)) level low well below plain = absurd (omega (arith, well.0))
    shown-spelled (Con Truth (vkids_of kid kids)) level low well below plain = absurd (omega (arith, well.0))
    shown-spelled (Con Text (vkids_of kid kids)) level low well below plain = absurd (omega (arith, well.0))
    shown-spelled (Con ListOf Nil) level low well below plain = absurd (omega (arith, well.0))
    shown-spelled (Con ListOf (vkids_of kid (vkids_of other kids))) level low well below plain = absurd (omega (arith, well.0))
    shown-spelled (Con Pair Nil) level low well below plain = absurd (omega (arith, well.0))
    shown-spelled (Con Pair (vkids_of kid Nil)) level low well below plain = absurd (omega (arith, well.0))
    shown-spelled (Con Pair (vkids_of kid (vkids_of other (vkids_of more kids)))) level low well below plain = absurd (omega (arith, well.0))
    shown-spelled (Con Fun Nil) level low well below plain = absurd (omega (arith, well.0))
    shown-spelled (Con Fun (vkids_of kid Nil)) level low well below plain = absurd (omega (arith, well.0))
    shown-spelled (Con Fun (vkids_of kid (vkids_of other (vkids_of more kids)))) level low well below plain = absurd (omega (arith, well.0))
    shown-spelled (Con (Data number parameters) kids) level low well below plain = absurd plain

-- The numbers of the names of a type are undone by the list of its names.

-- a fact of each name of a list
abbrev Each : (List ℕ → Type 0) → List (List ℕ) → Type 0
Each P [] = Unit {0}
Each P (name ∷ names) = P name × Each P names

module _ (P : List ℕ → Type 0) where
  each_parts : (some more : List (List ℕ)) → Each P (some ++ more) → Each P some × Each P more
  each_parts [] more h = (tt, h)
  each_parts (name ∷ some) more h = let parts = each_parts some more h.1 in ((h.0, parts.0), parts.1)

  mutual
    names_of_variables : (type : VType) → Each P (variables type) → EachName P type
    names_of_variables (Var name) h = h.0
    names_of_variables (Con top kids) h = names_of_kid_variables kids h
    names_of_variables (choice dim left right) h =
        let parts = each_parts (variables left) (variables right) h in
        (names_of_variables left parts.0, names_of_variables right parts.1)
    names_of_variables Err h = tt

    names_of_kid_variables : (kids : VKids) → Each P (kids_variables kids) → EachKidName P kids
    names_of_kid_variables Nil h = tt
    names_of_kid_variables (vkids_of kid kids) h =
        let parts = each_parts (variables kid) (kids_variables kids) h in
        (names_of_variables kid parts.0, names_of_kid_variables kids parts.1)

each_weaker : (P Q : List ℕ → Type 0) (names : List (List ℕ)) → ((name : List ℕ) → P name → Q name) → Each P names → Each Q names
each_weaker P Q [] f h = tt
each_weaker P Q (name ∷ names) f h = (f name h.0, each_weaker P Q names f h.1)

abbrev IsAmong : List (List ℕ) → List ℕ → Type 0
IsAmong names name = list_any (bytes_eq name) names ≡ true

among_more : (own : List ℕ) (names : List (List ℕ)) (name : List ℕ) → IsAmong names name → IsAmong (own ∷ names) name
among_more own names name h = elim (cases_Bool (bytes_eq name own)) [ inl e ↦ rw e refl | inr e ↦ rw (e, h) refl ]

each_among : (names : List (List ℕ)) → Each (IsAmong names) names
each_among [] = tt
each_among (own ∷ names) =
    let here : IsAmong (own ∷ names) own = rw ((bytes_eq-Decides own own).1 refl) refl in
    (here, each_weaker (IsAmong names) (IsAmong (own ∷ names)) names (λ name h. among_more own names name h) (each_among names))

-- no name is lost where each is kept once
among_distinct : (names : List (List ℕ)) (name : List ℕ) → IsAmong names name → IsAmong (distinct names) name
among_distinct [] name h = h
among_distinct (own ∷ names) name h = elim (cases_Bool (bytes_eq name own)) [
  | inl e ↦ rw e refl
  | inr e ↦ (let more = among_distinct names name (rw e at h) in
      rw (e, any-filter_same (bytes_eq name) (λ other. not (bytes_eq own other)) true (λ key passes. others own name key passes e) (distinct names)) more)
]
  where
    others : (own name key : List ℕ) → bytes_eq name key ≡ true → bytes_eq name own ≡ false → not (bytes_eq own key) ≡ true
    others own name key passes differ = elim (cases_Bool (bytes_eq own key)) [
      | inl e ↦ absurd (false≢true (sym differ ∙ (bytes_eq-Decides name own).1 ((bytes_eq-Decides name key).0 passes ∙ sym ((bytes_eq-Decides own key).0 e))))
      | inr e ↦ rw e refl
    ]

-- the appearance of some element that passes
passing_appearance : (p : List ℕ → Bool) (names : List (List ℕ)) → list_any p names ≡ true → (k : ℕ) × (k < length names) × (p (get_or names k []) ≡ true)
passing_appearance p [] h = absurd (false≢true h)
passing_appearance p (name ∷ names) h = elim (cases_Bool (p name)) [
  | inl e ↦ (0, omega arith, e)
  | inr e ↦ (let more = passing_appearance p names (rw e at h) in (suc more.0, omega arith, more.2))
]

-- the name of a number
abbrev name_of : List (List ℕ) → List ℕ → List ℕ
name_of names [] = []
name_of names (number ∷ more) = get_or names number []

name_of-numbered : (names : List (List ℕ)) (name : List ℕ) → IsAmong names name → name_of names (numbered names name) ≡ name
name_of-numbered names name h =
    let appearance = passing_appearance (bytes_eq name) names h in
    let found = position-some (bytes_eq name) names appearance.0 [] appearance.1 appearance.2 in
    let passes = position-Some (bytes_eq name) names _ [] found in
    rw found (sym ((bytes_eq-Decides name _).0 passes.1))

-- the first paths stay where variables are numbered
pub by_first_path-numbered : (type : VType) → by_first_path (renamed (numbered (distinct (variables type))) type) ≡ by_first_path type
by_first_path-numbered type =
    let names = distinct (variables type) in
    let undone = each_weaker (IsAmong (variables type)) (λ name. name_of names (numbered names name) ≡ name) (variables type) (λ name h. name_of-numbered names name (among_distinct (variables type) name h)) (each_among (variables type)) in
    by_first_path-renamed (numbered names) (name_of names) type (names_of_variables (λ name. name_of names (numbered names name) ≡ name) type undone)
