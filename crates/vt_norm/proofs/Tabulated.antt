use Rattle.std.proofs.Common.{◌≡◌, ℕ, zero, suc, ◌+◌, true, List, [], ◌∷◌, ◌++◌, length, Option, Some, None, slice_get, refl, sym, ap, ◌∙◌, append_assoc, arith}
use Rattle.std.specs.Option.{option_map}
use Rattle.vt_dec.specs.declared.side.Side.{Side}
use Rattle.vt_dec.specs.declared.side.Side.TheVariants.{Left, Right}
use Rattle.vt_type.specs.declared.plain.Plain.{Plain}
use Rattle.vt_type.specs.declared.plain.Plain as plain
use Rattle.vt_type.specs.declared.plain.PlainKids.{PlainKids}
use Rattle.vt_type.specs.declared.plain.PlainKids as kids
use Rattle.vt_type.specs.declared.vtype.VType.{VType, Var, Con, Err}
use Rattle.vt_type.specs.declared.vtype.VKids.{VKids, Nil}
use Rattle.vt_type.specs.Plain.{kids_of, kid_count, IsWellFormed, AreWellFormed}
use Rattle.vt_type.specs.Variational.{vkids_of, choice, vkid_count, by_side, IsWellFormedV, AreWellFormedV, selected, kids_selected}
use Rattle.vt_type.specs.NormalForm.{Map, Total, IsNormalForm}
use Rattle.vt_norm.proofs.Congruence.{for_same_outcomes}
use Rattle.vt_norm.proofs.Normalized.{comes, normalizes-type, normalizes-well_formed}

-- Each function from decisions to well-formed types has a normal form: some type, however large, selects
-- what the function gives.

abbrev mutual
  embedded : Plain → VType
  embedded (plain.Var name) = Var name
  embedded (plain.Con top types) = Con top (kids_embedded types)

  kids_embedded : PlainKids → VKids
  kids_embedded kids.Nil = Nil
  kids_embedded (kids_of kid others) = vkids_of (embedded kid) (kids_embedded others)

mutual
  embedded-selected : (d : List Side) (type : Plain) → selected d (embedded type) ≡ Some type
  embedded-selected d (plain.Var name) = refl
  embedded-selected d (plain.Con top types) = ap (option_map (plain.Con top)) (kids_embedded-selected d types)

  kids_embedded-selected : (d : List Side) (types : PlainKids) → kids_selected d (kids_embedded types) ≡ Some types
  kids_embedded-selected d kids.Nil = refl
  kids_embedded-selected d (kids_of kid others) = rw (embedded-selected d kid, kids_embedded-selected d others) refl

count-embedded : (types : PlainKids) → vkid_count (kids_embedded types) ≡ kid_count types
count-embedded kids.Nil = refl
count-embedded (kids_of kid others) = ap (λ n. 1 + n) (count-embedded others)

mutual
  embedded-well : (type : Plain) → IsWellFormed type → IsWellFormedV (embedded type)
  embedded-well (plain.Var name) w = tt
  embedded-well (plain.Con top types) w = (count-embedded types ∙ w.0, kids_embedded-well types w.1)

  kids_embedded-well : (types : PlainKids) → AreWellFormed types → AreWellFormedV (kids_embedded types)
  kids_embedded-well kids.Nil w = tt
  kids_embedded-well (kids_of kid others) w = (embedded-well kid w.0, kids_embedded-well others w.1)

-- a well-formed type, or the error
abbrev pub IsWellOutcome : Option Plain → Type 0
IsWellOutcome None = Unit {0}
IsWellOutcome (Some type) = IsWellFormed type

one-outcome : (found : Option Plain) → IsWellOutcome found → (type : VType) × IsWellFormedV type × ((d : List Side) → selected d type ≡ found)
one-outcome None w = (Err, tt, λ d. refl)
one-outcome (Some type) w = (embedded type, embedded-well type w, λ d. embedded-selected d type)

get-after : (before after : List Side) (side : Side) (dim : ℕ) → length before ≡ dim → slice_get (before ++ (side ∷ after)) dim ≡ Some side
get-after [] after side zero e = refl
get-after [] after side (suc dim) e = absurd (omega arith)
get-after (own ∷ before) after side zero e = absurd (omega arith)
get-after (own ∷ before) after side (suc dim) e = get-after before after side dim (omega arith)

step-further : (before after : List Side) (side : Side) → (before ++ side ∷ []) ++ after ≡ before ++ (side ∷ after)
step-further before after side = rw append_assoc refl

longer : (before : List Side) (side : Side) (dim : ℕ) → length before ≡ dim → length (before ++ side ∷ []) ≡ dim + 1
longer [] side dim e = omega arith
longer (own ∷ before) side zero e = absurd (omega arith)
longer (own ∷ before) side (suc dim) e = omega (arith, longer before side dim (omega arith))

tabulated : (count dim : ℕ) → dim + count ≡ 64 → (f : List Side → Option Plain) → ((d : List Side) → length d ≡ count → IsWellOutcome (f d))
    → (type : VType) × IsWellFormedV type × ((before after : List Side) → length before ≡ dim → length after ≡ count → selected (before ++ after) type ≡ f after)
tabulated zero dim e f w =
    let one = one-outcome (f []) (w [] refl) in (one.0, one.1, λ before after b a. by one.0 before after a (one.2 (before ++ after)))
  where
    by : (type : VType) (before after : List Side) → length after ≡ 0 → selected (before ++ after) type ≡ f [] → selected (before ++ after) type ≡ f after
    by type before [] a h = h
    by type before (side ∷ after) a h = absurd (omega arith)
tabulated (suc count) dim e f w =
    let left = tabulated count (dim + 1) (omega arith) (λ d. f (Left ∷ d)) (λ d h. w (Left ∷ d) (omega arith)) in
    let right = tabulated count (dim + 1) (omega arith) (λ d. f (Right ∷ d)) (λ d h. w (Right ∷ d) (omega arith)) in
    (choice dim left.0 right.0, (omega arith, left.1, right.1), λ before after b a. by left.0 right.0 left.2 right.2 before after b a)
  where
    by : (left right : VType)
        → ((before after : List Side) → length before ≡ dim + 1 → length after ≡ count → selected (before ++ after) left ≡ f (Left ∷ after))
        → ((before after : List Side) → length before ≡ dim + 1 → length after ≡ count → selected (before ++ after) right ≡ f (Right ∷ after))
        → (before after : List Side) → length before ≡ dim → length after ≡ suc count → selected (before ++ after) (choice dim left right) ≡ f after
    by left right h k before [] b a = absurd (omega arith)
    by left right h k before (Left ∷ after) b a =
        ap (λ side. by_side side (selected (before ++ (Left ∷ after)) left) (selected (before ++ (Left ∷ after)) right)) (get-after before after Left dim b)
        ∙ ap (λ d. selected d left) (sym (step-further before after Left)) ∙ h (before ++ Left ∷ []) after (longer before Left dim b) (omega arith)
    by left right h k before (Right ∷ after) b a =
        ap (λ side. by_side side (selected (before ++ (Right ∷ after)) left) (selected (before ++ (Right ∷ after)) right)) (get-after before after Right dim b)
        ∙ ap (λ d. selected d right) (sym (step-further before after Right)) ∙ k (before ++ Right ∷ []) after (longer before Right dim b) (omega arith)

-- the map of a function
abbrev pub map_of_function : (List Side → Option Plain) → Map
map_of_function f d found = f d ≡ found

pub has-form : (f : List Side → Option Plain) → ((d : List Side) → Total d → IsWellOutcome (f d)) → (form : VType) × IsNormalForm form (map_of_function f) Total × IsWellFormedV form
has-form f w =
    let whole = tabulated 64 0 refl f w in
    let form = comes true whole.0 whole.1 (λ _. refl) in (
      form.0,
      for_same_outcomes form.0 (λ d found. selected d whole.0 ≡ found) (map_of_function f) Total
          (λ d found total. let same = whole.2 [] d refl total in (λ h. sym same ∙ h, λ h. same ∙ h))
          (normalizes-type form.0 true whole.0 whole.1 (λ _. refl) form.1),
      normalizes-well_formed form.0 true whole.0 whole.1 form.1,
    )
