use Rattle.std.proofs.Common.{◌≡◌, ◌⊎◌, ℕ, suc, ◌+◌, Bool, true, false, cond, List, [], ◌∷◌, ◌++◌, map, Option, Some, None, IsSome, refl, sym, ap, subst, ◌∙◌, append_assoc, true≢false, inl, inr, add-zero, zero-add, arith}
use Rattle.std.proofs.lemmas.List.{map-append, append-nil}
use Rattle.std.proofs.lemmas.Option.{none-some, cond_some}
use Rattle.std.proofs.lemmas.Slice.Eq.{bytes_eq-Decides}
use Rattle.std.specs.Bool.{one_answer}
use Rattle.std.specs.Map.{lookup}
use Rattle.std.specs.Option.{option_and_then, unwrap_or}
use Rattle.std.specs.Str.{bytes_eq}
use Rattle.vt_type.specs.declared.plain.Plain.{Plain, Var, Con}
use Rattle.vt_type.specs.declared.plain.PlainKids.{PlainKids, Nil}
use Rattle.vt_type.specs.Plain.{kids_of, substituted, kids_substituted, IsInstance, IsRenaming}
use Rattle.vt_type.specs.Canonical.{occurrences, kids_occurrences, canonical, first_of, first_path, IsCanonical}
use Rattle.vt_type.specs.NormalForm.{kid_at}
use Rattle.vt_type.specs.Subterms.{subterm}
use Rattle.vt_type.proofs.Firsts.{or_later, lookup-append}
use Rattle.vt_type.proofs.Substituting.{substituted-well_formed}

-- a name stands in a list of places
abbrev pub Stands : List (List ℕ × List ℕ) → List ℕ → Type 0
Stands places name = IsSome (lookup (bytes_eq name) places)

pub Stands-here : (name at : List ℕ) → Stands ((name, at) ∷ []) name
Stands-here name at = rw ((bytes_eq-Decides name name).1 refl) refl

pub Stands-left : (one other : List (List ℕ × List ℕ)) (name : List ℕ) → Stands one name → Stands (one ++ other) name
Stands-left one other name h = rw lookup-append (by (lookup (bytes_eq name) one) h)
  where
    by : (o : Option (List ℕ)) → IsSome o → IsSome (or_later o (lookup (bytes_eq name) other))
    by (Some a) h = refl
    by None h = absurd (true≢false (sym h))

pub Stands-right : (one other : List (List ℕ × List ℕ)) (name : List ℕ) → Stands other name → Stands (one ++ other) name
Stands-right one other name h = rw lookup-append (by (lookup (bytes_eq name) one))
  where
    by : (o : Option (List ℕ)) → IsSome (or_later o (lookup (bytes_eq name) other))
    by (Some a) = refl
    by None = h

Stands-cases : (one other : List (List ℕ × List ℕ)) (name : List ℕ) → Stands (one ++ other) name → Stands one name ⊎ Stands other name
Stands-cases one other name h = by (lookup (bytes_eq name) one) (rw lookup-append at h)
  where
    by : (o : Option (List ℕ)) → IsSome (or_later o (lookup (bytes_eq name) other)) → IsSome o ⊎ Stands other name
    by (Some a) h = inl refl
    by None h = inr h

Stands-own : (own name at : List ℕ) → Stands ((own, at) ∷ []) name → name ≡ own
Stands-own own name at h = by (bytes_eq name own) refl h
  where
    by : (b : Bool) → bytes_eq name own ≡ b → IsSome (cond b (Some at) None) → name ≡ own
    by true e h = (bytes_eq-Decides name own).0 e
    by false e h = absurd (true≢false (sym h))

-- the parts of a type
abbrev pub name_of : Plain → List ℕ
name_of (Var name) = name
name_of (Con top kids) = []

abbrev kids_under : Plain → PlainKids
kids_under (Var name) = Nil
kids_under (Con top kids) = kids

abbrev pub first_kid : Plain → PlainKids → Plain
first_kid none Nil = none
first_kid none (kids_of kid kids) = kid

abbrev pub other_kids : PlainKids → PlainKids
other_kids Nil = Nil
other_kids (kids_of kid kids) = kids

-- one substitution after another
mutual
  pub substituted-substituted : (f g : List ℕ → Plain) (type : Plain) → substituted f (substituted g type) ≡ substituted (λ name. substituted f (g name)) type
  substituted-substituted f g (Var name) = refl
  substituted-substituted f g (Con top kids) = ap (Con top) (kids_substituted-substituted f g kids)

  kids_substituted-substituted : (f g : List ℕ → Plain) (kids : PlainKids) → kids_substituted f (kids_substituted g kids) ≡ kids_substituted (λ name. substituted f (g name)) kids
  kids_substituted-substituted f g Nil = refl
  kids_substituted-substituted f g (kids_of kid kids) = λ j. kids_of (substituted-substituted f g kid j) (kids_substituted-substituted f g kids j)

-- images that agree where a variable stands give the same type
module _ (f g : List ℕ → Plain) where
  mutual
    pub substituted-agree : (at : List ℕ) (type : Plain) → ((name : List ℕ) → Stands (occurrences at type) name → f name ≡ g name) → substituted f type ≡ substituted g type
    substituted-agree at (Var name) agree = agree name (Stands-here name at)
    substituted-agree at (Con top kids) agree = ap (Con top) (kids_substituted-agree at 0 kids agree)

    kids_substituted-agree : (at : List ℕ) (n : ℕ) (kids : PlainKids) → ((name : List ℕ) → Stands (kids_occurrences at n kids) name → f name ≡ g name) → kids_substituted f kids ≡ kids_substituted g kids
    kids_substituted-agree at n Nil agree = refl
    kids_substituted-agree at n (kids_of kid kids) agree =
        let here : substituted f kid ≡ substituted g kid = substituted-agree (at ++ n ∷ []) kid (λ name h. agree name (Stands-left (occurrences (at ++ n ∷ []) kid) (kids_occurrences at (n + 1) kids) name h)) in
        let there : kids_substituted f kids ≡ kids_substituted g kids = kids_substituted-agree at (n + 1) kids (λ name h. agree name (Stands-right (occurrences (at ++ n ∷ []) kid) (kids_occurrences at (n + 1) kids) name h)) in
        λ j. kids_of (here j) (there j)

-- two images of a type that are equal agree where a variable stands
module _ (f : List ℕ → Plain) where
  mutual
    pub agree-substituted : (at : List ℕ) (type : Plain) → substituted f type ≡ type → (name : List ℕ) → Stands (occurrences at type) name → f name ≡ Var name
    agree-substituted at (Var own) e name h = let same = Stands-own own name at h in ap f same ∙ e ∙ ap Var (sym same)
    agree-substituted at (Con top kids) e name h = agree-kids_substituted at 0 kids (ap kids_under e) name h

    agree-kids_substituted : (at : List ℕ) (n : ℕ) (kids : PlainKids) → kids_substituted f kids ≡ kids → (name : List ℕ) → Stands (kids_occurrences at n kids) name → f name ≡ Var name
    agree-kids_substituted at n Nil e name h = absurd (true≢false (sym h))
    agree-kids_substituted at n (kids_of kid kids) e name h =
        elim (Stands-cases (occurrences (at ++ n ∷ []) kid) (kids_occurrences at (n + 1) kids) name h) [
          | inl here ↦ agree-substituted (at ++ n ∷ []) kid (ap (first_kid kid) e) name here
          | inr there ↦ agree-kids_substituted at (n + 1) kids (ap other_kids e) name there
        ]

-- the places of a renamed type
abbrev pub renamed_place : (List ℕ → List ℕ) → List ℕ × List ℕ → List ℕ × List ℕ
renamed_place names place = (names place.0, place.1)

mutual
  pub occurrences-renamed : (names : List ℕ → List ℕ) (at : List ℕ) (type : Plain) → occurrences at (substituted (λ name. Var (names name)) type) ≡ map (renamed_place names) (occurrences at type)
  occurrences-renamed names at (Var name) = refl
  occurrences-renamed names at (Con top kids) = kids_occurrences-renamed names at 0 kids

  kids_occurrences-renamed : (names : List ℕ → List ℕ) (at : List ℕ) (n : ℕ) (kids : PlainKids) → kids_occurrences at n (kids_substituted (λ name. Var (names name)) kids) ≡ map (renamed_place names) (kids_occurrences at n kids)
  kids_occurrences-renamed names at n Nil = refl
  kids_occurrences-renamed names at n (kids_of kid kids) =
      (λ j. occurrences-renamed names (at ++ n ∷ []) kid j ++ kids_occurrences-renamed names at (n + 1) kids j)
      ∙ sym (map-append (renamed_place names) (occurrences (at ++ n ∷ []) kid) (kids_occurrences at (n + 1) kids))

-- where the new name is that of no other variable, it is found where the old one was
pub lookup-renamed : (names : List ℕ → List ℕ) (new old : List ℕ) (places : List (List ℕ × List ℕ)) → ((name : List ℕ) → Stands places name → bytes_eq new (names name) ≡ bytes_eq old name)
    → lookup (bytes_eq new) (map (renamed_place names) places) ≡ lookup (bytes_eq old) places
lookup-renamed names new old [] own = refl
lookup-renamed names new old (place ∷ places) own =
    let here : Stands (place ∷ places) place.0 = rw ((bytes_eq-Decides place.0 place.0).1 refl) refl in
    (λ j. cond (own place.0 here j) (Some place.1) (lookup-renamed names new old places (λ name h. own name (Stands-right (place ∷ []) places name h)) j))

which : (one other : Option (List ℕ)) (path : List ℕ) → or_later one other ≡ Some path → (one ≡ Some path) ⊎ (other ≡ Some path)
which (Some a) other path e = inl e
which None other path e = inr e

-- the way from the root to where a variable stands first
mutual
  pub found_subterm : (at : List ℕ) (type : Plain) (name path : List ℕ) → lookup (bytes_eq name) (occurrences at type) ≡ Some path → (way : List ℕ) × (path ≡ at ++ way) × (subterm type way ≡ Some (Var name))
  found_subterm at (Var own) name path e =
      let found = cond_some (bytes_eq name own) at path e in
      ([], sym found.1 ∙ sym (append-nil at), ap (λ n. Some (Var n)) (sym ((bytes_eq-Decides name own).0 found.0)))
  found_subterm at (Con top kids) name path e =
      let found = found_kid_subterm at 0 kids name path e in
      (found.0 ∷ found.1, found.2 ∙ ap (λ n. at ++ n ∷ found.1) (zero-add found.0), found.3)

  found_kid_subterm : (at : List ℕ) (n : ℕ) (kids : PlainKids) (name path : List ℕ) → lookup (bytes_eq name) (kids_occurrences at n kids) ≡ Some path
      → (k : ℕ) × (way : List ℕ) × (path ≡ at ++ (n + k) ∷ way) × (option_and_then (λ kid. subterm kid way) (kid_at kids k) ≡ Some (Var name))
  found_kid_subterm at n Nil name path e = absurd (none-some path e)
  found_kid_subterm at n (kids_of kid kids) name path e =
      let here = occurrences (at ++ n ∷ []) kid in
      let there = kids_occurrences at (n + 1) kids in
      elim (which (lookup (bytes_eq name) here) (lookup (bytes_eq name) there) path (sym (lookup-append (bytes_eq name) here there) ∙ e)) [
        | inl h ↦
            (let found = found_subterm (at ++ n ∷ []) kid name path h in
            (0, found.0, found.1 ∙ append_assoc at (n ∷ []) found.0 ∙ ap (λ m. at ++ m ∷ found.0) (sym (add-zero n)), found.2))
        | inr h ↦
            (let found = found_kid_subterm at (n + 1) kids name path h in
            let order : (n + 1) + found.0 ≡ n + suc found.0 = omega arith in
            (suc found.0, found.1, found.2 ∙ ap (λ m. at ++ m ∷ found.1) order, found.3))
      ]

-- the first path of a variable leads to it
pub subterm-first_path : (type : Plain) (name : List ℕ) → Stands (occurrences [] type) name → subterm type (first_path type name) ≡ Some (Var name)
subterm-first_path type name h = by (lookup (bytes_eq name) (occurrences [] type)) refl h
  where
    by : (o : Option (List ℕ)) → lookup (bytes_eq name) (occurrences [] type) ≡ o → IsSome o → subterm type (unwrap_or o name) ≡ Some (Var name)
    by (Some path) e h = let found = found_subterm [] type name path e in ap (subterm type) found.1 ∙ found.2
    by None e h = absurd (true≢false (sym h))

first_path-one : (type : Plain) (name other : List ℕ) → Stands (occurrences [] type) name → Stands (occurrences [] type) other → first_path type name ≡ first_path type other → name ≡ other
first_path-one type name other h k e = ap (λ o. name_of (unwrap_or o type)) (sym (subterm-first_path type name h) ∙ ap (subterm type) e ∙ subterm-first_path type other k)

same_test : (a b c d : List ℕ) → (a ≡ b → c ≡ d) → (c ≡ d → a ≡ b) → bytes_eq a b ≡ bytes_eq c d
same_test a b c d f g =
    one_answer (bytes_eq a b) (bytes_eq c d) (bytes_eq-Decides a b) (λ h. g ((bytes_eq-Decides c d).0 h), λ h. (bytes_eq-Decides c d).1 (f h))

-- new names, one for each variable, leave the canonical form
pub canonical-renamed : (names : List ℕ → List ℕ) (type : Plain)
    → ((name other : List ℕ) → Stands (occurrences [] type) name → Stands (occurrences [] type) other → names name ≡ names other → name ≡ other)
    → canonical (substituted (λ name. Var (names name)) type) ≡ canonical type
canonical-renamed names type one =
    let places = occurrences [] type in
    let renamed = substituted (λ name. Var (names name)) type in
    ap (λ p. substituted (first_of p) renamed) (occurrences-renamed names [] type)
    ∙ substituted-substituted (first_of (map (renamed_place names) places)) (λ name. Var (names name)) type
    ∙ substituted-agree (λ name. first_of (map (renamed_place names) places) (names name)) (first_of places) [] type
    (λ name h. ap (λ o. Var (unwrap_or o (names name))) (lookup-renamed names (names name) name places (λ other k. same_test (names name) (names other) name other (one name other h k) (ap names)))
    ∙ found (lookup (bytes_eq name) places) (names name) name h)
  where
    found : (o : Option (List ℕ)) (a b : List ℕ) → IsSome o → Var (unwrap_or o a) ≡ Var (unwrap_or o b)
    found (Some path) a b h = refl
    found None a b h = absurd (true≢false (sym h))

-- a canonical form is canonical
pub canonical-canonical : (type : Plain) → IsCanonical (canonical type)
canonical-canonical type = canonical-renamed (first_path type) type (first_path-one type)

-- a substitution that changes nothing
mutual
  substituted-Var : (type : Plain) → substituted Var type ≡ type
  substituted-Var (Var name) = refl
  substituted-Var (Con top kids) = ap (Con top) (kids_substituted-Var kids)

  kids_substituted-Var : (kids : PlainKids) → kids_substituted Var kids ≡ kids
  kids_substituted-Var Nil = refl
  kids_substituted-Var (kids_of kid kids) = λ j. kids_of (substituted-Var kid j) (kids_substituted-Var kids j)

-- an instance of an instance
pub IsInstance-trans : (one mid other : Plain) → IsInstance one mid → IsInstance mid other → IsInstance one other
IsInstance-trans one mid other f g = record {
  images = λ name. substituted f.images (g.images name);
  well_formed = λ name. substituted-well_formed f.images f.well_formed (g.images name) (g.well_formed name);
  same = sym (substituted-substituted f.images g.images other) ∙ ap (substituted f.images) g.same ∙ f.same;
}

-- the variable at a path, or one of that name
abbrev variable_at : Option Plain → List ℕ → List ℕ
variable_at (Some (Var name)) path = name
variable_at (Some (Con top kids)) path = path
variable_at None path = path

-- a type is an instance of its canonical form, and the other way round
from_canonical : (type : Plain) → IsInstance type (canonical type)
from_canonical type = record {
  images = λ path. Var (variable_at (subterm type path) path);
  well_formed = λ name. tt;
  same = substituted-substituted (λ path. Var (variable_at (subterm type path) path)) (first_of (occurrences [] type)) type
      ∙ substituted-agree (λ name. Var (variable_at (subterm type (first_path type name)) (first_path type name))) Var [] type (λ name h. ap (λ o. Var (variable_at o (first_path type name))) (subterm-first_path type name h))
      ∙ substituted-Var type;
}

to_canonical : (type : Plain) → IsInstance (canonical type) type
to_canonical type = record { images = first_of (occurrences [] type); well_formed = λ name. tt; same = refl }

-- what a substitution makes a variable is a variable
only_a_variable : (images : List ℕ → Plain) (type : Plain) (name : List ℕ) → substituted images type ≡ Var name → type ≡ Var (name_of type)
only_a_variable images (Var own) name e = refl
only_a_variable images (Con top kids) name e = cc

-- renamings have one canonical form
pub canonical-renaming : (one other : Plain) → IsRenaming one other → canonical one ≡ canonical other
canonical-renaming one other (f, g) =
    ap canonical (sym f.same ∙ substituted-agree f.images (λ name. Var (name_of (f.images name))) [] other to_variable)
    ∙ canonical-renamed (λ name. name_of (f.images name)) other one_each
  where
    back : (name : List ℕ) → Stands (occurrences [] other) name → substituted g.images (f.images name) ≡ Var name
    back = agree-substituted (λ name. substituted g.images (f.images name)) [] other (sym (substituted-substituted g.images f.images other) ∙ ap (substituted g.images) f.same ∙ g.same)

    to_variable : (name : List ℕ) → Stands (occurrences [] other) name → f.images name ≡ Var (name_of (f.images name))
    to_variable name h = only_a_variable g.images (f.images name) name (back name h)

    one_each : (name also : List ℕ) → Stands (occurrences [] other) name → Stands (occurrences [] other) also → name_of (f.images name) ≡ name_of (f.images also) → name ≡ also
    one_each name also h k e =
        let same = to_variable name h ∙ ap Var e ∙ sym (to_variable also k) in
        ap name_of (sym (back name h) ∙ ap (substituted g.images) same ∙ back also k)

-- types with one canonical form are renamings
pub renaming-canonical : (one other : Plain) → canonical one ≡ canonical other → IsRenaming one other
renaming-canonical one other e = (
  IsInstance-trans one (canonical one) other (from_canonical one) (subst (λ t. IsInstance t other) (sym e) (to_canonical other)),
  IsInstance-trans other (canonical other) one (from_canonical other) (subst (λ t. IsInstance t one) e (to_canonical one)),
)
