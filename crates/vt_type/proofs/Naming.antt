use Rattle.std.proofs.Common.{◌≡◌, ◌↔◌, ◌⊎◌, ℕ, zero, suc, ◌<◌, Bool, true, false, List, [], ◌∷◌, ◌++◌, map, length, slice_get, position, Some, Contains, refl, sym, ap, subst, ◌∙◌, inl, inr, arith, ◌||◌, true≢false, if◌then◌else◌}
use Rattle.std.proofs.lemmas.List.{map-append}
use Rattle.std.proofs.lemmas.Option.{same_Some, none-some, slice_get-map, slice_get_cases, slice_get_within, slice_get-get_or, get_or_from_slice_get}
use Rattle.std.proofs.lemmas.List.Quantifiers.{position-Some}
use Rattle.std.proofs.lemmas.Slice.Eq.{bytes_eq-Decides}
use Rattle.std.specs.Str.{bytes_eq}
use Rattle.std.specs.List.{list_any}
use Rattle.std.specs.Option.{option_map}
use Rattle.indexmap.proofs.CallerLemmas.{Contains-list_any}
use Rattle.vt_type.specs.Names.{AreDistinct}

-- a text that stands at a number is among them
pub Contains-at : (names : List (List ℕ)) (n : ℕ) (name : List ℕ) → slice_get names n ≡ Some name → Contains names name
Contains-at names n name e = (n, slice_get_within names n name e, get_or_from_slice_get names n name name e)

-- a text that is among them stands at a number
pub at-Contains : (names : List (List ℕ)) (name : List ℕ) → Contains names name → (n : ℕ) × (slice_get names n ≡ Some name)
at-Contains names name h = (h.0, slice_get-get_or names h.0 name h.1 ∙ ap Some h.2)

-- keys that are seen as texts
module _ {X : Type 0} (text : X → List ℕ) (name : List ℕ) where
  abbrev pub has_name : X → Bool
  has_name key = bytes_eq name (text key)

  -- the first key with this text stands at its number
  pub first_found : (keys : List X) (n : ℕ) → n < length keys → position has_name keys ≡ Some n → slice_get (map text keys) n ≡ Some name
  first_found keys n within e =
      elim (slice_get_cases keys n).1 [
        | inl (x, _, at, same) ↦
            (let passes = (position-Some has_name keys n x e).1 in
            slice_get-map text keys n ∙ ap (option_map text) at ∙ ap Some (sym ((bytes_eq-Decides name (text x)).0 (rw same at passes))))
        | inr past ↦ absurd (omega (arith, past.0))
      ]

  -- and at no other
  pub first_exact : (keys : List X) (n : ℕ) → n < length keys → position has_name keys ≡ Some n → AreDistinct (map text keys) → (m : ℕ) → (Some n ≡ Some m) ↔ (slice_get (map text keys) m ≡ Some name)
  first_exact keys n within e distinct m =
      let found = first_found keys n within e in
      (λ same. subst (λ k. slice_get (map text keys) k ≡ Some name) (same_Some n m same) found, λ at. ap Some (distinct n m name found at))

  -- where no key passes, the text stands at no number
  pub none_at : (keys : List X) (n : ℕ) → list_any has_name keys ≡ false → slice_get (map text keys) n ≡ Some name → ⊥
  none_at [] n absent e = none-some name e
  none_at (key ∷ keys) zero absent e =
      let passes = (bytes_eq-Decides name (text key)).1 (sym (same_Some (text key) name e)) in
      true≢false (sym (ap (λ b. b || list_any has_name keys) passes) ∙ absent)
  none_at (key ∷ keys) (suc n) absent e = none_at keys n (others (has_name key) absent) e
    where
      others : (b : Bool) → (b || list_any has_name keys) ≡ false → list_any has_name keys ≡ false
      others true h = absurd (true≢false h)
      others false h = h

  any-map : (keys : List X) → list_any (bytes_eq name) (map text keys) ≡ list_any has_name keys
  any-map [] = refl
  any-map (key ∷ keys) = ap (λ b. has_name key || b) (any-map keys)

  -- where some key passes, the text is among them
  pub any-Contains : (keys : List X) → list_any has_name keys ≡ true → Contains (map text keys) name
  any-Contains keys h = Contains-list_any bytes_eq (λ x y. (bytes_eq-Decides x y).0) (map text keys) name (any-map keys ∙ h)

-- a key whose text is not among them goes last
pub pushed : {X : Type 0} (text : X → List ℕ) (keys new : List X) (key : X) → new ≡ (if list_any (has_name text (text key)) keys then keys else (keys ++ key ∷ [])) → (Contains (map text keys) (text key) → ⊥) → map text new ≡ map text keys ++ text key ∷ []
pushed {X} text keys new key e absent = ap (map text) e ∙ by (list_any (has_name text (text key)) keys) refl
  where
    by : (b : Bool) → list_any (has_name text (text key)) keys ≡ b → map text (if b then keys else (keys ++ key ∷ [])) ≡ map text keys ++ text key ∷ []
    by true h = absurd (absent (any-Contains text (text key) keys h))
    by false h = map-append text keys (key ∷ [])

slice_get_push : (names : List (List ℕ)) (last name : List ℕ) (n : ℕ) → slice_get (names ++ last ∷ []) n ≡ Some name → (slice_get names n ≡ Some name) ⊎ ((n ≡ length names) × (last ≡ name))
slice_get_push [] last name zero e = inr (refl, same_Some last name e)
slice_get_push [] last name (suc n) e = absurd (none-some name e)
slice_get_push (x ∷ xs) last name zero e = inl e
slice_get_push (x ∷ xs) last name (suc n) e =
    elim (slice_get_push xs last name n e) [ inl at ↦ inl at | inr h ↦ inr (ap suc h.0, h.1) ]

-- a new text last keeps the texts distinct
pub AreDistinct-push : (names : List (List ℕ)) (last : List ℕ) → AreDistinct names → (Contains names last → ⊥) → AreDistinct (names ++ last ∷ [])
AreDistinct-push names last distinct absent one other name e f =
    elim (slice_get_push names last name one e) [
      | inl at ↦
          elim (slice_get_push names last name other f) [
            | inl there ↦ distinct one other name at there
            | inr h ↦ absurd (absent (Contains-at names one last (at ∙ ap Some (sym h.1))))
          ]
      | inr h ↦
          elim (slice_get_push names last name other f) [
            | inl there ↦ absurd (absent (Contains-at names other last (there ∙ ap Some (sym h.1))))
            | inr k ↦ h.0 ∙ sym k.0
          ]
    ]
