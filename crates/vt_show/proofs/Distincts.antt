use Rattle.std.proofs.Common.{◌≡◌, ℕ, ◌+◌, Bool, true, false, not, cond, ◌||◌, List, [], ◌∷◌, ◌++◌, map, filter, position, refl, sym, ap, ◌∙◌, append_assoc, inl, inr, true≢false, if◌then◌else◌}
use Rattle.std.specs.List.{list_any, position_or_len}
use Rattle.std.specs.Str.{bytes_eq}
use Rattle.std.proofs.lemmas.Bool.{cases_Bool}
use Rattle.std.proofs.lemmas.List.{append-nil, length-map, map-append}
use Rattle.std.proofs.lemmas.List.Elements.{filter-append}
use Rattle.std.proofs.lemmas.Map.Views.{any-filter_same}
use Rattle.std.proofs.lemmas.Slice.Eq.{bytes_eq-Decides}
use Rattle.vt_type.specs.Text.{distinct}

-- Names in the order in which they appear, each once.

-- names and one more at the end, if it is not among them
abbrev pub with_name : List (List ℕ) → List ℕ → List (List ℕ)
with_name names name = if list_any (bytes_eq name) names then names else (names ++ name ∷ [])

-- keys that are seen as names
module _ {X : Type 0} (text : X → List ℕ) (name : List ℕ) where
  any-map : (keys : List X) → list_any (bytes_eq name) (map text keys) ≡ list_any (λ key. bytes_eq name (text key)) keys
  any-map [] = refl
  any-map (key ∷ keys) = ap (λ b. bytes_eq name (text key) || b) (any-map keys)

  place-map : (keys : List X) → position_or_len (bytes_eq name) (map text keys) ≡ position_or_len (λ key. bytes_eq name (text key)) keys
  place-map [] = refl
  place-map (key ∷ keys) = ap (λ n. cond (not (bytes_eq name (text key))) (1 + n) 0) (place-map keys)

  pub position-map : (keys : List X) → position (λ key. bytes_eq name (text key)) keys ≡ position (bytes_eq name) (map text keys)
  position-map keys = rw (place-map keys, length-map keys text) refl

  -- a key is added at the end where it is not among them
  pub with_name-map : (keys new : List X) (key : X) → text key ≡ name
      → new ≡ (if list_any (λ other. bytes_eq (text key) (text other)) keys then keys else (keys ++ key ∷ []))
      → map text new ≡ with_name (map text keys) name
  with_name-map keys new key same is = ap (map text) is ∙ by (list_any (λ other. bytes_eq (text key) (text other)) keys) (any-map keys ∙ ap (λ n. list_any (λ other. bytes_eq n (text other)) keys) (sym same))
    where
      by : (b : Bool) → list_any (bytes_eq name) (map text keys) ≡ b → map text (if b then keys else (keys ++ key ∷ [])) ≡ with_name (map text keys) name
      by true e = rw e refl
      by false e = rw e (map-append text keys (key ∷ []) ∙ ap (λ n. map text keys ++ n ∷ []) same)

  -- or stays where it is among them
  pub with_name-known : (keys : List X) → list_any (λ key. bytes_eq name (text key)) keys ≡ true → with_name (map text keys) name ≡ map text keys
  with_name-known keys h = rw (any-map keys ∙ h) refl

module _ (own name : List ℕ) (names : List (List ℕ)) where
  -- all but the first name
  abbrev others : List (List ℕ) → List (List ℕ)
  others all = filter (λ other. not (bytes_eq own other)) all

  -- the first name once more is left out
  others-own : name ≡ own → others (with_name names name) ≡ others names
  others-own same = by (list_any (bytes_eq name) names) refl
    where
      by : (b : Bool) → list_any (bytes_eq name) names ≡ b → others (if b then names else (names ++ name ∷ [])) ≡ others names
      by true e = refl
      by false e =
          let equal : bytes_eq own name ≡ true = (bytes_eq-Decides own name).1 (sym same) in
          filter-append (λ other. not (bytes_eq own other)) names (name ∷ []) ∙ rw equal (append-nil (others names))

  -- another name stays
  others-name : bytes_eq name own ≡ false → own ∷ others (with_name names name) ≡ with_name (own ∷ others names) name
  others-name differ = rw (differ, among) (by (list_any (bytes_eq name) names))
    where
      kept : (key : List ℕ) → bytes_eq name key ≡ true → not (bytes_eq own key) ≡ true
      kept key passes = by (bytes_eq own key) refl
        where
          by : (b : Bool) → bytes_eq own key ≡ b → not b ≡ true
          by false e = refl
          by true e =
              let equal = (bytes_eq-Decides name own).1 ((bytes_eq-Decides name key).0 passes ∙ sym ((bytes_eq-Decides own key).0 e)) in
              absurd (true≢false (sym equal ∙ differ))

      among : list_any (bytes_eq name) (others names) ≡ list_any (bytes_eq name) names
      among = any-filter_same (bytes_eq name) (λ other. not (bytes_eq own other)) true kept names

      by : (b : Bool) → own ∷ others (if b then names else (names ++ name ∷ [])) ≡ (if b then own ∷ others names else ((own ∷ others names) ++ name ∷ []))
      by true = refl
      by false =
          let own_kept = kept name ((bytes_eq-Decides name name).1 refl) in
          ap (λ all. own ∷ all) (filter-append (λ other. not (bytes_eq own other)) names (name ∷ []) ∙ rw own_kept refl)

-- the names with one more
pub distinct-push : (names : List (List ℕ)) (name : List ℕ) → distinct (names ++ name ∷ []) ≡ with_name (distinct names) name
distinct-push [] name = refl
distinct-push (own ∷ names) name =
    ap (λ all. own ∷ others own name names all) (distinct-push names name)
    ∙ elim (cases_Bool (bytes_eq name own)) [
      | inl e ↦ ap (λ all. own ∷ all) (others-own own name (distinct names) ((bytes_eq-Decides name own).0 e)) ∙ rw e refl
      | inr e ↦ others-name own name (distinct names) e
    ]

-- two parts, one after the other
pub distinct_more : (old mid new first rest : List (List ℕ))
    → ((before : List (List ℕ)) → old ≡ distinct before → mid ≡ distinct (before ++ first))
    → ((before : List (List ℕ)) → mid ≡ distinct before → new ≡ distinct (before ++ rest))
    → (before : List (List ℕ)) → old ≡ distinct before → new ≡ distinct (before ++ (first ++ rest))
distinct_more old mid new first rest f g before e =
    g (before ++ first) (f before e) ∙ ap distinct (append_assoc before first rest)
