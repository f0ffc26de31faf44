use Rattle.std.proofs.Common.{◌≡◌, ℕ, Bool, true, false, cond, Vec, List, [], ◌∷◌, ◌++◌, map, Option, Some, None, refl, sym, ap, ◌∙◌, append_assoc}
use Rattle.std.proofs.lemmas.Option.{none-some}
use Rattle.std.proofs.lemmas.Slice.Eq.{bytes_eq-Decides}
use Rattle.std.specs.Map.{lookup}
use Rattle.std.specs.Str.{bytes_eq}
use Rattle.std.specs.Option.{unwrap_or}
use Rattle.std.proofs.lemmas.List.{map-append}
use Rattle.indexmap.specs.IndexMap.{IndexMap, insert_entry}
use Rattle.indexmap.proofs.CallerLemmas.{insert_entry-new}
use Rattle.vt_type.specs.declared.plain.Plain.{Plain, Var}
use Rattle.vt_type.specs.declared.plain.PlainKids.{PlainKids}
use Rattle.vt_type.specs.Plain.{kids_of, substituted, kids_substituted}
use Rattle.vt_type.specs.Canonical.{FindsAs, first_of}

-- the first of two, or else the second
abbrev pub or_later : {A : Type 0} → Option A → Option A → Option A
or_later None later = later
or_later (Some a) later = Some a

-- what is found in two lists is what is found in the first, or else in the second
pub lookup-append : {K X : Type 0} (test : K → Bool) (xs ys : List (K × X)) → lookup test (xs ++ ys) ≡ or_later (lookup test xs) (lookup test ys)
lookup-append test [] ys = refl
lookup-append {K} {X} test (x ∷ xs) ys = by (test x.0) (lookup-append test xs ys)
  where
    by : (b : Bool) → lookup test (xs ++ ys) ≡ or_later (lookup test xs) (lookup test ys) → cond b (Some x.1) (lookup test (xs ++ ys)) ≡ or_later (cond b (Some x.1) (lookup test xs)) (lookup test ys)
    by true e = refl
    by false e = e

-- the same list after both keeps what is found the same
pub FindsAs-append : (one other more : List (List ℕ × List ℕ)) → FindsAs one other → FindsAs (one ++ more) (other ++ more)
FindsAs-append one other more same name =
    lookup-append (bytes_eq name) one more ∙ ap (λ o. or_later o (lookup (bytes_eq name) more)) (same name) ∙ sym (lookup-append (bytes_eq name) other more)

-- lists in which the same is found give the same names
pub first_of-FindsAs : (one other : List (List ℕ × List ℕ)) → FindsAs one other → first_of one ≡ first_of other
first_of-FindsAs one other same = λ j name. ap (λ o. Var (unwrap_or o name)) (same name) j

-- a name that was met is found as before
pub lookup-met : (name : List ℕ) (places later : List (List ℕ × List ℕ)) (path : List ℕ) → lookup (bytes_eq name) places ≡ Some path → lookup (bytes_eq name) (places ++ later) ≡ Some path
lookup-met name places later path some =
    lookup-append (bytes_eq name) places later ∙ ap (λ o. or_later o (lookup (bytes_eq name) later)) some

module _ (name here : List ℕ) where
  -- a name is found with its own path where it was not met before
  pub lookup-last : (places later : List (List ℕ × List ℕ)) → lookup (bytes_eq name) places ≡ None → lookup (bytes_eq name) (places ++ (name, here) ∷ later) ≡ Some here
  lookup-last places later none =
      lookup-append (bytes_eq name) places ((name, here) ∷ later)
      ∙ ap (λ o. or_later o (lookup (bytes_eq name) ((name, here) ∷ later))) none
      ∙ ap (λ b. cond b (Some here) (lookup (bytes_eq name) later)) ((bytes_eq-Decides name name).1 refl)

  -- to meet it again changes nothing
  pub FindsAs-met : (places : List (List ℕ × List ℕ)) (path : List ℕ) → lookup (bytes_eq name) places ≡ Some path → FindsAs places (places ++ (name, here) ∷ [])
  FindsAs-met places path some other = sym (lookup-append (bytes_eq other) places ((name, here) ∷ []) ∙ by (lookup (bytes_eq other) places) refl (bytes_eq other name) refl)
    where
      by : (found : Option (List ℕ)) → lookup (bytes_eq other) places ≡ found → (b : Bool) → bytes_eq other name ≡ b → or_later found (cond b (Some here) None) ≡ found
      by (Some p) e b t = refl
      by None e false t = refl
      by None e true t = absurd (none-some path (sym e ∙ ap (λ n. lookup (bytes_eq n) places) ((bytes_eq-Decides other name).0 t) ∙ some))

-- a first child and the others, one after the other
module _ (old mid first others : List (List ℕ × List ℕ)) (met : FindsAs mid (old ++ first)) where
  pub FindsAs-more : (new : List (List ℕ × List ℕ)) → FindsAs new (mid ++ others) → FindsAs new (old ++ (first ++ others))
  FindsAs-more new then name =
      then name ∙ FindsAs-append mid (old ++ first) others met name ∙ ap (lookup (bytes_eq name)) (append_assoc old first others)

  pub renamed-more : (kid one : Plain) (kids all : PlainKids)
      → ((later : List (List ℕ × List ℕ)) → one ≡ substituted (first_of (old ++ (first ++ later))) kid)
      → ((later : List (List ℕ × List ℕ)) → all ≡ kids_substituted (first_of (mid ++ (others ++ later))) kids)
      → (later : List (List ℕ × List ℕ)) → kids_of one all ≡ kids_substituted (first_of (old ++ ((first ++ others) ++ later))) (kids_of kid kids)
  renamed-more kid one kids all is are later =
      let whole = old ++ ((first ++ others) ++ later) in
      let order : (old ++ first) ++ (others ++ later) ≡ whole = append_assoc old first (others ++ later) ∙ ap (λ l. old ++ l) (sym (append_assoc first others later)) in
      let same : FindsAs (mid ++ (others ++ later)) whole = λ name. FindsAs-append mid (old ++ first) (others ++ later) met name ∙ ap (lookup (bytes_eq name)) order in
      let here : one ≡ substituted (first_of whole) kid = is (others ++ later) ∙ ap (λ l. substituted (first_of (old ++ l)) kid) (sym (append_assoc first others later)) in
      let there : all ≡ kids_substituted (first_of whole) kids = are later ∙ ap (λ images. kids_substituted images kids) (first_of-FindsAs _ _ same) in
      λ j. kids_of (here j) (there j)

-- the entries of the map, as pairs of lists
abbrev pub entry_of : {Z : Type 0} → Vec ℕ Z × List ℕ → List ℕ × List ℕ
entry_of e = (e.0.items, e.1)

pub lookup-entry_of : {Z : Type 0} (name : List ℕ) (entries : List (Vec ℕ Z × List ℕ)) → lookup (bytes_eq name) (map entry_of entries) ≡ lookup (λ (key : Vec ℕ Z). bytes_eq name key.items) entries
lookup-entry_of name [] = refl
lookup-entry_of name (e ∷ es) = ap (cond (bytes_eq name e.0.items) (Some e.1)) (lookup-entry_of name es)

-- a name that was not met goes last
pub entries-new : {Z S : Type 0} (paths : IndexMap (Vec ℕ Z) (List ℕ) S) (new : List (Vec ℕ Z × List ℕ)) (key : Vec ℕ Z) (value name here : List ℕ)
    → key.items ≡ name → value ≡ here → lookup (λ (k : Vec ℕ Z). bytes_eq name k.items) paths.entries ≡ None
    → new ≡ insert_entry (λ a b. bytes_eq a.items b.items) paths.entries key value
    → map entry_of new ≡ map entry_of paths.entries ++ (name, here) ∷ []
entries-new {Z} paths new key value name here k v none is =
    let absent = ap (λ n. lookup (λ (x : Vec ℕ Z). bytes_eq n x.items) paths.entries) k ∙ none in
    ap (map entry_of) (is ∙ insert_entry-new (λ a b. bytes_eq a.items b.items) paths key value absent)
    ∙ map-append entry_of paths.entries ((key, value) ∷ []) ∙ (λ j. map entry_of paths.entries ++ (k j, v j) ∷ [])
