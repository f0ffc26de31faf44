use Rattle.std.proofs.Common.{◌≡◌, ◌≢◌, ℕ, suc, ◌+◌, ◌-◌, ◌<◌, ◌≤◌, ◌==◌, Bool, true, false, not, cond, List, [], ◌∷◌, ◌++◌, take, drop, length, position, Contains, get_or, slice_get, refl, ap, sym, ◌∙◌, arith, eqb-true, eq-eqb, lt-ltb, append_assoc, length-append, take-append-drop, Some, None, Option, MatchOption, inl, inr}
use Rattle.std.specs.List.{position_or_len}
use Rattle.std.specs.Option.{option_map}
use Rattle.std.specs.Str.{bytes_eq}
use Rattle.std.proofs.lemmas.Bool.{cases_Bool, cases_lt, false≢true, not-false}
use Rattle.std.proofs.lemmas.List.{take_at, drop_at, drop_more, drop-drop, take_rest, length_push}
use Rattle.std.proofs.lemmas.List.Quantifiers.{position-Some}
use Rattle.std.proofs.lemmas.List.Sums.{prefix_len_passes, prefix_len_stops}
use Rattle.std.proofs.lemmas.Option.{same_Some, none-some, option_and_then_some, slice_get-get_or, slice_get_within, get_or_from_slice_get}
use Rattle.std.proofs.lemmas.Slice.Eq.{bytes_eq-Decides}
use Rattle.vt_type.specs.Names.{AreDistinct}
use Rattle.vt_show.specs.Steps.{after, name_at, dim_at}

-- Signs and names at the front of a text.

-- what a test guards, where there is something
pub guarded_some : {A : Type 0} (b : Bool) (o : Option A) (y : A) → cond b o None ≡ Some y → (b ≡ true) × (o ≡ Some y)
guarded_some true o y h = (refl, h)
guarded_some false o y h = absurd (none-some y h)

-- a sign that is there is found
pub after-front : (sign rest : List ℕ) → after sign (sign ++ rest) ≡ Some rest
after-front [] rest = refl
after-front (c ∷ sign) rest = rw (eq-eqb c c refl) (after-front sign rest)

-- a sign that is found is there
pub after-read : (sign text rest : List ℕ) → after sign text ≡ Some rest → text ≡ sign ++ rest
after-read [] text rest h = same_Some _ _ h
after-read (c ∷ sign) [] rest h = absurd (none-some rest h)
after-read (c ∷ sign) (byte ∷ text) rest h =
    let read = guarded_some (byte == c) (after sign text) rest h in
    rw (eqb-true byte c read.0) (ap (λ t. c ∷ t) (after-read sign text rest read.1))

-- what is there after a sign, or is not
pub after_is : {A : Type 0} (f : A → List ℕ) (o : Option A) (sign text : List ℕ)
    → MatchOption o ((rest : List ℕ) → text ≢ sign ++ rest) (λ x. text ≡ sign ++ f x) → option_map f o ≡ after sign text
after_is f (Some x) sign text h = sym (ap (after sign) h ∙ after-front sign (f x))
after_is f None sign text h = sym (by (after sign text) refl)
  where
    by : (o : Option (List ℕ)) → after sign text ≡ o → o ≡ None
    by None e = refl
    by (Some rest) e = absurd (h rest (after-read sign text rest e))

-- a name stands at the index where it is found
name-position : (names : List (List ℕ)) (number : ℕ) (name : List ℕ) → position (bytes_eq name) names ≡ Some number → slice_get names number ≡ Some name
name-position names number name found =
    let index = position-Some (bytes_eq name) names number name found in
    slice_get-get_or names number name index.0 ∙ ap Some (sym ((bytes_eq-Decides name _).0 index.1))

-- where some element passes, the first such has a index
pub position-some : {X : Type 0} (p : X → Bool) (xs : List X) (k : ℕ) (d : X) → k < length xs → p (get_or xs k d) ≡ true → position p xs ≡ Some (position_or_len p xs)
position-some p xs k d within passes =
    let first : position_or_len p xs < length xs = elim (cases_lt k (position_or_len p xs)) [
      | inl before ↦ absurd (false≢true (sym (ap not passes) ∙ prefix_len_passes (λ x. not (p x)) xs k d before))
      | inr h ↦ omega arith
    ] in
    rw (lt-ltb _ _ first) refl

-- the first that passes, before which none does
pub position-here : {X : Type 0} (p : X → Bool) (xs : List X) (k : ℕ) (x : X) → slice_get xs k ≡ Some x → p x ≡ true → k ≤ position_or_len p xs → position p xs ≡ Some k
position-here p xs k x at passes first =
    let within = slice_get_within xs k x at in
    let own : p (get_or xs k x) ≡ true = rw (get_or_from_slice_get xs k x x at) passes in
    let found = position-some p xs k x within own in
    let index = position-Some p xs (position_or_len p xs) x found in
    let last : position_or_len p xs ≤ k = elim (cases_lt k (position_or_len p xs)) [
      | inl before ↦ absurd (false≢true (sym (index.2 k before) ∙ own))
      | inr h ↦ h
    ] in
    let same : position_or_len p xs ≡ k = omega arith in
    found ∙ ap Some same

-- where an element does not pass, the first that does is further on
pub position-later : {X : Type 0} (p : X → Bool) (xs : List X) (k : ℕ) (x : X) → slice_get xs k ≡ Some x → p x ≡ false → k ≤ position_or_len p xs → k + 1 ≤ position_or_len p xs
position-later p xs k x at fails first = elim (cases_lt k (position_or_len p xs)) [
  | inl h ↦ omega arith
  | inr h ↦ (let same : position_or_len p xs ≡ k = omega arith in
      let within = slice_get_within xs k x at in
      let stops = prefix_len_stops (λ y. not (p y)) xs x (omega (arith, same, within)) in
      let own : not (p x) ≡ false = rw (same, get_or_from_slice_get xs k x x at) at stops in
      absurd (false≢true (sym fails ∙ not-false _ own)))
]

-- the test of two texts, seen from the other
pub same_bytes : (bytes own name : List ℕ) → bytes ≡ own → bytes_eq bytes name ≡ true → bytes_eq name own ≡ true
same_bytes bytes own name is h =
    (bytes_eq-Decides name own).1 (sym ((bytes_eq-Decides bytes name).0 h) ∙ is)

pub other_bytes : (bytes own name : List ℕ) → bytes ≡ own → bytes_eq bytes name ≡ false → bytes_eq name own ≡ false
other_bytes bytes own name is h = elim (cases_Bool (bytes_eq name own)) [
  | inl e ↦ absurd (false≢true (sym h ∙ (bytes_eq-Decides bytes name).1 (is ∙ sym ((bytes_eq-Decides name own).0 e))))
  | inr e ↦ e
]

-- a name's number among names that differ
position-name : (names : List (List ℕ)) (number : ℕ) (name : List ℕ) → AreDistinct names → slice_get names number ≡ Some name → position (bytes_eq name) names ≡ Some number
position-name names number name distinct at =
    let within = slice_get_within names number name at in
    let own = get_or_from_slice_get names number name name at in
    let found = position-some (bytes_eq name) names number name within ((bytes_eq-Decides _ _).1 (sym own)) in
    let same = distinct (position_or_len (bytes_eq name) names) number name (name-position names _ name found) at in
    found ∙ ap Some same

-- the brace after a name that has none
prefix_to_brace : (name rest : List ℕ) → (Contains name 123 → ⊥) → position_or_len (λ byte. byte == 123) (name ++ 123 ∷ rest) ≡ length name
prefix_to_brace [] rest lacks = refl
prefix_to_brace (byte ∷ name) rest lacks =
    let other : (byte == 123) ≡ false = elim (cases_Bool (byte == 123)) [
      | inl e ↦ absurd (lacks (0, omega arith, eqb-true byte 123 e))
      | inr e ↦ e
    ] in
    let more = prefix_to_brace name rest (λ h. lacks (suc h.0, omega arith, h.2)) in
    rw other (omega (arith, more))

-- the name before a brace, where it has none
name_at-front : (name rest : List ℕ) → (Contains name 123 → ⊥) → name_at (name ++ 123 ∷ rest) ≡ Some (name, rest)
name_at-front name rest lacks =
    let index = prefix_to_brace name rest lacks in
    let within : length name < length (name ++ 123 ∷ rest) = rw (length-append name (123 ∷ rest)) (omega arith) in
    let front : take (length name) (name ++ 123 ∷ rest) ≡ name = take_at name (123 ∷ rest) (length name) refl in
    let past : drop (length name + 1) (name ++ 123 ∷ rest) ≡ rest = rw (← append_assoc name (123 ∷ []) rest) (drop_at (name ++ 123 ∷ []) rest _ (length_push name 123)) in
    rw (index, lt-ltb _ _ within, front, past) refl

-- a name that is found stands before a brace
name_at-read : (text : List ℕ) (found : List ℕ × List ℕ) → name_at text ≡ Some found → text ≡ found.0 ++ 123 ∷ found.1
name_at-read text found h =
    option_and_then_some _ (position (λ byte. byte == 123) text) found h (λ n at is.
    let index = position-Some (λ byte. byte == 123) text n 0 at in
    let brace = eqb-true _ 123 index.1 in
    rw (← same_Some _ _ is) (sym (take-append-drop n text) ∙ ap (λ t. take n text ++ t) (drop_more text n 0 index.0 ∙ ap (λ b. b ∷ drop (n + 1) text) brace)))

-- the dimension of a name before a brace, where names differ and it has no brace
pub dim_at-front : (dims : List (List ℕ)) (dim : ℕ) (name rest : List ℕ) → AreDistinct dims → slice_get dims dim ≡ Some name → (Contains name 123 → ⊥) → dim_at dims (name ++ 123 ∷ rest) ≡ Some (dim, rest)
dim_at-front dims dim name rest distinct at lacks =
    rw (name_at-front name rest lacks, position-name dims dim name distinct at) refl

-- a dimension that is found has the name that stands before the brace
pub dim_at-read : (dims : List (List ℕ)) (text : List ℕ) (found : ℕ × List ℕ) → dim_at dims text ≡ Some found → (name : List ℕ) × (slice_get dims found.0 ≡ Some name) × (text ≡ name ++ 123 ∷ found.1)
dim_at-read dims text found h =
    option_and_then_some _ (name_at text) found h (λ name e1 h1.
    option_and_then_some _ (position (bytes_eq name.0) dims) found h1 (λ dim e2 h2.
    rw (← same_Some _ _ h2) (name.0, name-position dims dim name.0 e2, name_at-read text name e1)))

-- the dimension whose name is cut off at the brace
pub dim_at_is : (dims : List (List ℕ)) (text : List ℕ) (brace number : ℕ) (name back : List ℕ)
    → position (λ byte. byte == 123) text ≡ Some brace → name ≡ take brace text → back ≡ drop brace text → position (bytes_eq name) dims ≡ Some number
    → dim_at dims text ≡ Some (number, take (length back - 1) (drop 1 back))
dim_at_is dims text brace number name back index front rest found =
    let named : position (bytes_eq (take brace text)) dims ≡ Some number = rw (← front) found in
    rw (index, named, rest, take_rest (drop brace text) 1, drop-drop 1 brace text) refl
