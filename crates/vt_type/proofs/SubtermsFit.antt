use Rattle.std.proofs.Common.{◌≡◌, ◌==◌, ◌↔◌, ℕ, zero, suc, ◌+◌, Bool, false, IsTrue, List, [], ◌∷◌, ◌++◌, Option, Some, None, length, refl, sym, ap, subst, ◌∙◌, true≢false}
use Rattle.vt_type.specs.declared.plain.Plain.{Plain, Var, Con}
use Rattle.vt_type.specs.declared.plain.PlainKids.{PlainKids, Nil}
use Rattle.std.proofs.lemmas.Option.{none-some, same_Some}
use Rattle.std.specs.Option.{option_map, option_and_then, unwrap_or, IfSome}
use Rattle.vt_type.specs.Plain.{kids_of, substituted, kids_substituted, IsWellFormed, AreWellFormed, IsInstance}
use Rattle.vt_type.specs.Canonical.{occurrences, kids_occurrences, first_of, first_path, IsCanonical}
use Rattle.vt_type.specs.NormalForm.{kid_at}
use Rattle.vt_type.specs.Subterms.{subterm, FitsSubterms, AllFitSubterms}
use Rattle.vt_type.proofs.Renaming.{Stands, Stands-here, Stands-left, Stands-right, agree-substituted, subterm-first_path, name_of, first_kid, other_kids}

-- the first child and the others fit by themselves
module _ (whole kid special : Plain) (kids parts : PlainKids) where
  pub both_fit : AllFitSubterms whole (kids_of kid kids) (kids_of special parts) → FitsSubterms whole kid special × AllFitSubterms whole kids parts
  both_fit (first, others, is, f, g) = (subst (FitsSubterms whole kid) (sym (ap (first_kid special) is)) f, subst (AllFitSubterms whole kids) (sym (ap other_kids is)) g)

  pub first_decides : (result : Bool) → (IsTrue result ↔ FitsSubterms whole kid special) → result ≡ false → IsTrue result ↔ AllFitSubterms whole (kids_of kid kids) (kids_of special parts)
  first_decides result first failed = (λ yes. absurd (true≢false (sym yes ∙ failed)), λ h. first.1 (both_fit h).0)

  pub others_decide : (result : Bool) → FitsSubterms whole kid special → (IsTrue result ↔ AllFitSubterms whole kids parts) → IsTrue result ↔ AllFitSubterms whole (kids_of kid kids) (kids_of special parts)
  others_decide result first others = (λ yes. (special, parts, refl, first, others.0 yes), λ h. others.1 (both_fit h).1)

-- children do not fit where there are none
pub none_fit : (whole kid : Plain) (kids : PlainKids) → AllFitSubterms whole (kids_of kid kids) Nil → ⊥
none_fit whole kid kids (first, others, is, f, g) = cc

-- a variable has no parts below it
pub subterm-Var : (name path : List ℕ) → (length path == 0) ≡ false → subterm (Var name) path ≡ None
subterm-Var name [] some = absurd (true≢false some)
subterm-Var name (n ∷ path) some = refl

-- a subterm of a well-formed type is well formed
kid_at-well_formed : (kids : PlainKids) (n : ℕ) → AreWellFormed kids → IfSome (kid_at kids n) IsWellFormed
kid_at-well_formed Nil n h = tt
kid_at-well_formed (kids_of kid kids) zero h = h.0
kid_at-well_formed (kids_of kid kids) (suc n) h = kid_at-well_formed kids n h.1

subterm-well_formed : (type : Plain) (path : List ℕ) → IsWellFormed type → IfSome (subterm type path) IsWellFormed
subterm-well_formed type [] h = h
subterm-well_formed (Var name) (n ∷ path) h = tt
subterm-well_formed (Con top kids) (n ∷ path) h = by (kid_at kids n) (kid_at-well_formed kids n h.1) (λ kid. subterm-well_formed kid path)
  where
    by : (kid : Option Plain) → IfSome kid IsWellFormed → ((k : Plain) → IsWellFormed k → IfSome (subterm k path) IsWellFormed) → IfSome (option_and_then (λ k. subterm k path) kid) IsWellFormed
    by None k below = tt
    by (Some kid) k below = below kid k

-- the image of a variable is the subterm at the path that names it
abbrev image_in : Plain → List ℕ → Plain
image_in whole name = unwrap_or (subterm whole name) (Var name)

image_in-well_formed : (whole : Plain) → IsWellFormed whole → (name : List ℕ) → IsWellFormed (image_in whole name)
image_in-well_formed whole h name = by (subterm whole name) (subterm-well_formed whole name h)
  where
    by : (image : Option Plain) → IfSome image IsWellFormed → IsWellFormed (unwrap_or image (Var name))
    by None k = tt
    by (Some image) k = k

-- a type that fits is the image
module _ (whole : Plain) where
  mutual
    substituted-fits : (general special : Plain) → FitsSubterms whole general special → substituted (image_in whole) general ≡ special
    substituted-fits (Var name) special h = ap (λ o. unwrap_or o (Var name)) h
    substituted-fits (Con top kids) special (parts, is, h) = ap (Con top) (kids_substituted-fit kids parts h) ∙ sym is

    kids_substituted-fit : (kids parts : PlainKids) → AllFitSubterms whole kids parts → kids_substituted (image_in whole) kids ≡ parts
    kids_substituted-fit Nil parts h = sym h
    kids_substituted-fit (kids_of kid kids) parts (first, others, is, f, g) = (λ j. kids_of (substituted-fits kid first f j) (kids_substituted-fit kids others g j)) ∙ sym is

-- an image fits where the subterm at the path of each variable is its image
module _ (whole : Plain) (images : List ℕ → Plain) where
  mutual
    fits-substituted : (at : List ℕ) (general : Plain) → ((name : List ℕ) → Stands (occurrences at general) name → subterm whole name ≡ Some (images name)) → FitsSubterms whole general (substituted images general)
    fits-substituted at (Var name) own = own name (Stands-here name at)
    fits-substituted at (Con top kids) own = (kids_substituted images kids, refl, fit-kids_substituted at 0 kids own)

    fit-kids_substituted : (at : List ℕ) (n : ℕ) (kids : PlainKids) → ((name : List ℕ) → Stands (kids_occurrences at n kids) name → subterm whole name ≡ Some (images name)) → AllFitSubterms whole kids (kids_substituted images kids)
    fit-kids_substituted at n Nil own = refl
    fit-kids_substituted at n (kids_of kid kids) own = (
      substituted images kid,
      kids_substituted images kids,
      refl,
      fits-substituted (at ++ n ∷ []) kid (λ name h. own name (Stands-left (occurrences (at ++ n ∷ []) kid) (kids_occurrences at (n + 1) kids) name h)),
      fit-kids_substituted at (n + 1) kids (λ name h. own name (Stands-right (occurrences (at ++ n ∷ []) kid) (kids_occurrences at (n + 1) kids) name h)),
    )

-- the subterm of an image is the image of the subterm
kid_at-substituted : (images : List ℕ → Plain) (kids : PlainKids) (n : ℕ) → kid_at (kids_substituted images kids) n ≡ option_map (substituted images) (kid_at kids n)
kid_at-substituted images Nil n = refl
kid_at-substituted images (kids_of kid kids) zero = refl
kid_at-substituted images (kids_of kid kids) (suc n) = kid_at-substituted images kids n

subterm-substituted : (images : List ℕ → Plain) (type : Plain) (path : List ℕ) (here : Plain) → subterm type path ≡ Some here → subterm (substituted images type) path ≡ Some (substituted images here)
subterm-substituted images type [] here e = ap (λ t. Some (substituted images t)) (same_Some type here e)
subterm-substituted images (Var name) (n ∷ path) here e = absurd (none-some here e)
subterm-substituted images (Con top kids) (n ∷ path) here e =
    ap (option_and_then (λ k. subterm k path)) (kid_at-substituted images kids n) ∙ by (kid_at kids n) e (λ kid. subterm-substituted images kid path here)
  where
    by : (kid : Option Plain) → option_and_then (λ k. subterm k path) kid ≡ Some here → ((k : Plain) → subterm k path ≡ Some here → subterm (substituted images k) path ≡ Some (substituted images here))
        → option_and_then (λ k. subterm k path) (option_map (substituted images) kid) ≡ Some (substituted images here)
    by None e below = absurd (none-some here e)
    by (Some kid) e below = below kid e

-- a variable of a canonical type is named by the path that leads to it
subterm-canonical : (type : Plain) → IsCanonical type → (name : List ℕ) → Stands (occurrences [] type) name → subterm type name ≡ Some (Var name)
subterm-canonical type canonical name h =
    let own : first_path type name ≡ name = ap name_of (agree-substituted (first_of (occurrences [] type)) [] type canonical name h) in
    subst (λ path. subterm type path ≡ Some (Var name)) own (subterm-first_path type name h)

-- so the parts decide whether a type is an instance
pub IsInstance-fits : (special general : Plain) → IsWellFormed special → IsCanonical general → FitsSubterms special general special ↔ IsInstance special general
IsInstance-fits special general well_formed canonical = (
  λ fits. record { images = image_in special; well_formed = image_in-well_formed special well_formed; same = substituted-fits special general special fits },
  λ instance.
      let own : (name : List ℕ) → Stands (occurrences [] general) name → subterm special name ≡ Some (instance.images name) = λ name h. subst (λ t. subterm t name ≡ Some (instance.images name)) instance.same (subterm-substituted instance.images general name (Var name) (subterm-canonical general canonical name h)) in
      subst (FitsSubterms special general) instance.same (fits-substituted special instance.images [] general own),
)
