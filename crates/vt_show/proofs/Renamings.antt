use Rattle.std.proofs.Common.{◌≡◌, ℕ, ◌+◌, cond, List, [], ◌∷◌, ◌++◌, map, unwrap_or, IsSome, Option, Some, None, refl, sym, ap, ◌∙◌, true≢false, inl, inr}
use Rattle.std.specs.Bool.{one_answer}
use Rattle.std.specs.Map.{lookup}
use Rattle.std.specs.Str.{bytes_eq}
use Rattle.std.proofs.lemmas.Bool.{cases_Bool}
use Rattle.std.proofs.lemmas.List.{map-append}
use Rattle.std.proofs.lemmas.Slice.Eq.{bytes_eq-Decides}
use Rattle.vt_type.specs.declared.vtype.VType.{VType, Var, Con, Err}
use Rattle.vt_type.specs.declared.vtype.VKids.{VKids, Nil}
use Rattle.vt_type.specs.Variational.{vkids_of, choice, vkid_count, IsWellFormedV, AreWellFormedV}
use Rattle.vt_show.specs.Conditions.{DimsBelow, KidsDimsBelow}
use Rattle.vt_show.specs.Reading.{appearances, kids_appearances, renamed, kids_renamed, by_first_path}

-- Types under other names.

-- a fact of each name of a type, and of each in a list of appearances
abbrev mutual
  pub EachName : (List ℕ → Type 0) → VType → Type 0
  EachName P (Var name) = P name
  EachName P (Con top kids) = EachKidName P kids
  EachName P (choice dim left right) = EachName P left × EachName P right
  EachName P Err = Unit {0}

  pub EachKidName : (List ℕ → Type 0) → VKids → Type 0
  EachKidName P Nil = Unit {0}
  EachKidName P (vkids_of kid kids) = EachName P kid × EachKidName P kids

abbrev pub EachAppearance : (List ℕ → Type 0) → List (List ℕ × List ℕ) → Type 0
EachAppearance P [] = Unit {0}
EachAppearance P (appearance ∷ more) = P appearance.0 × EachAppearance P more

module _ (P : List ℕ → Type 0) where
  each_append : (some more : List (List ℕ × List ℕ)) → EachAppearance P some → EachAppearance P more → EachAppearance P (some ++ more)
  each_append [] more h k = k
  each_append (appearance ∷ some) more h k = (h.0, each_append some more h.1 k)

  each_of_append : (some more : List (List ℕ × List ℕ)) → EachAppearance P (some ++ more) → EachAppearance P some × EachAppearance P more
  each_of_append [] more h = (tt, h)
  each_of_append (appearance ∷ some) more h = let parts = each_of_append some more h.1 in ((h.0, parts.0), parts.1)

  -- what holds of the names holds of the appearances, and the other way round
  mutual
    pub appearances_of_names : (at : List ℕ) (type : VType) → EachName P type → EachAppearance P (appearances at type)
    appearances_of_names at (Var name) h = (h, tt)
    appearances_of_names at (Con top kids) h = appearances_of_kid_names at 0 kids h
    appearances_of_names at (choice dim left right) h =
        each_append (appearances at left) (appearances at right) (appearances_of_names at left h.0) (appearances_of_names at right h.1)
    appearances_of_names at Err h = tt

    appearances_of_kid_names : (at : List ℕ) (n : ℕ) (kids : VKids) → EachKidName P kids → EachAppearance P (kids_appearances at n kids)
    appearances_of_kid_names at n Nil h = tt
    appearances_of_kid_names at n (vkids_of kid kids) h =
        each_append (appearances (at ++ n ∷ []) kid) (kids_appearances at (n + 1) kids) (appearances_of_names (at ++ n ∷ []) kid h.0) (appearances_of_kid_names at (n + 1) kids h.1)

  mutual
    pub names_of_appearances : (at : List ℕ) (type : VType) → EachAppearance P (appearances at type) → EachName P type
    names_of_appearances at (Var name) h = h.0
    names_of_appearances at (Con top kids) h = kid_names_of_appearances at 0 kids h
    names_of_appearances at (choice dim left right) h =
        let parts = each_of_append (appearances at left) (appearances at right) h in
        (names_of_appearances at left parts.0, names_of_appearances at right parts.1)
    names_of_appearances at Err h = tt

    kid_names_of_appearances : (at : List ℕ) (n : ℕ) (kids : VKids) → EachAppearance P (kids_appearances at n kids) → EachKidName P kids
    kid_names_of_appearances at n Nil h = tt
    kid_names_of_appearances at n (vkids_of kid kids) h =
        let parts = each_of_append (appearances (at ++ n ∷ []) kid) (kids_appearances at (n + 1) kids) h in
        (names_of_appearances (at ++ n ∷ []) kid parts.0, kid_names_of_appearances at (n + 1) kids parts.1)

-- what follows for each appearance, or from two facts of each
pub each_weaker : (P Q R : List ℕ → Type 0) (all : List (List ℕ × List ℕ)) → ((name : List ℕ) → P name → Q name → R name) → EachAppearance P all → EachAppearance Q all → EachAppearance R all
each_weaker P Q R [] f h k = tt
each_weaker P Q R (appearance ∷ all) f h k = (f appearance.0 h.0 k.0, each_weaker P Q R all f h.1 k.1)

-- the name of each appearance is found in the list
abbrev pub IsFound : List (List ℕ × List ℕ) → List ℕ → Type 0
IsFound all name = IsSome (lookup (bytes_eq name) all)

found_later : (appearance : List ℕ × List ℕ) (all : List (List ℕ × List ℕ)) (name : List ℕ) → IsFound all name → IsFound (appearance ∷ all) name
found_later appearance all name h = elim (cases_Bool (bytes_eq name appearance.0)) [ inl e ↦ rw e refl | inr e ↦ rw e h ]

pub each_found : (all : List (List ℕ × List ℕ)) → EachAppearance (IsFound all) all
each_found [] = tt
each_found (appearance ∷ all) =
    let own : IsFound (appearance ∷ all) appearance.0 = rw ((bytes_eq-Decides appearance.0 appearance.0).1 refl) refl in
    let more = each_found all in
    (own, each_weaker (IsFound all) (IsFound all) (IsFound (appearance ∷ all)) all (λ name h _. found_later appearance all name h) more more)

-- one renaming after another
mutual
  pub renamed-renamed : (f g : List ℕ → List ℕ) (type : VType) → renamed f (renamed g type) ≡ renamed (λ name. f (g name)) type
  renamed-renamed f g (Var name) = refl
  renamed-renamed f g (Con top kids) = ap (Con top) (kids_renamed-renamed f g kids)
  renamed-renamed f g (choice dim left right) = λ j. choice dim (renamed-renamed f g left j) (renamed-renamed f g right j)
  renamed-renamed f g Err = refl

  kids_renamed-renamed : (f g : List ℕ → List ℕ) (kids : VKids) → kids_renamed f (kids_renamed g kids) ≡ kids_renamed (λ name. f (g name)) kids
  kids_renamed-renamed f g Nil = refl
  kids_renamed-renamed f g (vkids_of kid kids) = λ j. vkids_of (renamed-renamed f g kid j) (kids_renamed-renamed f g kids j)

-- renamings that agree on each name give the same type
module _ (f g : List ℕ → List ℕ) where
  mutual
    pub renamed-agree : (type : VType) → EachName (λ name. f name ≡ g name) type → renamed f type ≡ renamed g type
    renamed-agree (Var name) h = ap Var h
    renamed-agree (Con top kids) h = ap (Con top) (kids_renamed-agree kids h)
    renamed-agree (choice dim left right) h = λ j. choice dim (renamed-agree left h.0 j) (renamed-agree right h.1 j)
    renamed-agree Err h = refl

    kids_renamed-agree : (kids : VKids) → EachKidName (λ name. f name ≡ g name) kids → kids_renamed f kids ≡ kids_renamed g kids
    kids_renamed-agree Nil h = refl
    kids_renamed-agree (vkids_of kid kids) h = λ j. vkids_of (renamed-agree kid h.0 j) (kids_renamed-agree kids h.1 j)

-- a renaming that keeps each name keeps the type
mutual
  pub renamed-same : (f : List ℕ → List ℕ) (type : VType) → EachName (λ name. f name ≡ name) type → renamed f type ≡ type
  renamed-same f (Var name) h = ap Var h
  renamed-same f (Con top kids) h = ap (Con top) (kids_renamed-same f kids h)
  renamed-same f (choice dim left right) h = λ j. choice dim (renamed-same f left h.0 j) (renamed-same f right h.1 j)
  renamed-same f Err h = refl

  kids_renamed-same : (f : List ℕ → List ℕ) (kids : VKids) → EachKidName (λ name. f name ≡ name) kids → kids_renamed f kids ≡ kids
  kids_renamed-same f Nil h = refl
  kids_renamed-same f (vkids_of kid kids) h = λ j. vkids_of (renamed-same f kid h.0 j) (kids_renamed-same f kids h.1 j)

-- a renamed type is well formed where the type is
mutual
  pub renamed-well_formed : (f : List ℕ → List ℕ) (type : VType) → IsWellFormedV type → IsWellFormedV (renamed f type)
  renamed-well_formed f (Var name) h = tt
  renamed-well_formed f (Con top kids) h = (kid_count-renamed f kids ∙ h.0, kids_renamed-well_formed f kids h.1)
  renamed-well_formed f (choice dim left right) h = (h.0, renamed-well_formed f left h.1, renamed-well_formed f right h.2)
  renamed-well_formed f Err h = tt

  kids_renamed-well_formed : (f : List ℕ → List ℕ) (kids : VKids) → AreWellFormedV kids → AreWellFormedV (kids_renamed f kids)
  kids_renamed-well_formed f Nil h = tt
  kids_renamed-well_formed f (vkids_of kid kids) h = (renamed-well_formed f kid h.0, kids_renamed-well_formed f kids h.1)

  kid_count-renamed : (f : List ℕ → List ℕ) (kids : VKids) → vkid_count (kids_renamed f kids) ≡ vkid_count kids
  kid_count-renamed f Nil = refl
  kid_count-renamed f (vkids_of kid kids) = ap (λ n. 1 + n) (kid_count-renamed f kids)

-- a renamed type has the same dimensions
mutual
  pub renamed-dims : (f : List ℕ → List ℕ) (n : ℕ) (type : VType) → DimsBelow n type → DimsBelow n (renamed f type)
  renamed-dims f n (Var name) h = tt
  renamed-dims f n (Con top kids) h = kids_renamed-dims f n kids h
  renamed-dims f n (choice dim left right) h = (h.0, renamed-dims f n left h.1, renamed-dims f n right h.2)
  renamed-dims f n Err h = tt

  kids_renamed-dims : (f : List ℕ → List ℕ) (n : ℕ) (kids : VKids) → KidsDimsBelow n kids → KidsDimsBelow n (kids_renamed f kids)
  kids_renamed-dims f n Nil h = tt
  kids_renamed-dims f n (vkids_of kid kids) h = (renamed-dims f n kid h.0, kids_renamed-dims f n kids h.1)

-- the appearances of a renamed type
abbrev renamed_appearance : (List ℕ → List ℕ) → List ℕ × List ℕ → List ℕ × List ℕ
renamed_appearance f appearance = (f appearance.0, appearance.1)

mutual
  appearances-renamed : (f : List ℕ → List ℕ) (at : List ℕ) (type : VType) → appearances at (renamed f type) ≡ map (renamed_appearance f) (appearances at type)
  appearances-renamed f at (Var name) = refl
  appearances-renamed f at (Con top kids) = kids_appearances-renamed f at 0 kids
  appearances-renamed f at (choice dim left right) =
      (λ j. appearances-renamed f at left j ++ appearances-renamed f at right j)
      ∙ sym (map-append (renamed_appearance f) (appearances at left) (appearances at right))
  appearances-renamed f at Err = refl

  kids_appearances-renamed : (f : List ℕ → List ℕ) (at : List ℕ) (n : ℕ) (kids : VKids) → kids_appearances at n (kids_renamed f kids) ≡ map (renamed_appearance f) (kids_appearances at n kids)
  kids_appearances-renamed f at n Nil = refl
  kids_appearances-renamed f at n (vkids_of kid kids) =
      (λ j. appearances-renamed f (at ++ n ∷ []) kid j ++ kids_appearances-renamed f at (n + 1) kids j)
      ∙ sym (map-append (renamed_appearance f) (appearances (at ++ n ∷ []) kid) (kids_appearances at (n + 1) kids))

-- A renaming that can be undone keeps the first paths.
module _ (f g : List ℕ → List ℕ) where
  abbrev Undone : List ℕ → Type 0
  Undone name = g (f name) ≡ name

  same_test : (name other : List ℕ) → Undone name → Undone other → bytes_eq (f name) (f other) ≡ bytes_eq name other
  same_test name other h k =
      one_answer (bytes_eq (f name) (f other)) (bytes_eq name other) (bytes_eq-Decides (f name) (f other))
      (λ e. ap f ((bytes_eq-Decides name other).0 e), λ e. (bytes_eq-Decides name other).1 (sym h ∙ ap g e ∙ k))

  lookup-renamed : (name : List ℕ) (all : List (List ℕ × List ℕ)) → Undone name → EachAppearance Undone all → lookup (bytes_eq (f name)) (map (renamed_appearance f) all) ≡ lookup (bytes_eq name) all
  lookup-renamed name [] h each = refl
  lookup-renamed name (appearance ∷ all) h each = λ j. cond (same_test name appearance.0 h each.0 j) (Some appearance.1) (lookup-renamed name all h each.1 j)

  either_name : (o : Option (List ℕ)) (one other : List ℕ) → IsSome o → unwrap_or o one ≡ unwrap_or o other
  either_name (Some path) one other h = refl
  either_name None one other h = absurd (true≢false (sym h))

  pub by_first_path-renamed : (type : VType) → EachName Undone type → by_first_path (renamed f type) ≡ by_first_path type
  by_first_path-renamed type each =
      let all = appearances [] type in
      let new : List ℕ → List ℕ = λ name. unwrap_or (lookup (bytes_eq name) (map (renamed_appearance f) all)) name in
      let old : List ℕ → List ℕ = λ name. unwrap_or (lookup (bytes_eq name) all) name in
      let undone = appearances_of_names Undone [] type each in
      let same = each_weaker Undone (IsFound all) (λ name. new (f name) ≡ old name) all
      (λ name h found. ap (λ o. unwrap_or o (f name)) (lookup-renamed name all h undone) ∙ either_name (lookup (bytes_eq name) all) (f name) name found)
      undone (each_found all) in
      ap (λ p. renamed (λ name. unwrap_or (lookup (bytes_eq name) p) name) (renamed f type)) (appearances-renamed f [] type)
      ∙ renamed-renamed new f type
      ∙ renamed-agree (λ name. new (f name)) old type (names_of_appearances (λ name. new (f name) ≡ old name) [] type same)
