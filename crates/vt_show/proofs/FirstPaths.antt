use Rattle.std.proofs.Common.{◌≡◌, ℕ, List, [], ◌++◌, unwrap_or, sym, ap, ◌∙◌, append_assoc}
use Rattle.std.specs.Map.{lookup}
use Rattle.std.specs.Str.{bytes_eq}
use Rattle.std.proofs.lemmas.List.{append-nil}
use Rattle.vt_type.specs.declared.vtype.VType.{VType}
use Rattle.vt_type.specs.declared.vtype.VKids.{VKids}
use Rattle.vt_type.specs.Variational.{vkids_of, choice}
use Rattle.vt_type.specs.Canonical.{FindsAs, first_name}
use Rattle.vt_type.proofs.Firsts.{FindsAs-append}
use Rattle.vt_show.specs.Reading.{appearances, renamed, kids_renamed, by_first_path}

-- Two parts of a type, one after the other, of which each is named by what was met up to it.
module _ (old mid first others : List (List ℕ × List ℕ)) (met : FindsAs mid (old ++ first)) (later : List (List ℕ × List ℕ)) where
  abbrev whole : List (List ℕ × List ℕ)
  whole = old ++ ((first ++ others) ++ later)

  first_names : first_name (old ++ (first ++ (others ++ later))) ≡ first_name whole
  first_names = ap (λ all. first_name (old ++ all)) (sym (append_assoc first others later))

  other_names : first_name (mid ++ (others ++ later)) ≡ first_name whole
  other_names =
      let order : (old ++ first) ++ (others ++ later) ≡ whole = append_assoc old first (others ++ later) ∙ ap (λ l. old ++ l) (sym (append_assoc first others later)) in
      λ j name. ap (λ o. unwrap_or o name) (FindsAs-append mid (old ++ first) (others ++ later) met name ∙ ap (lookup (bytes_eq name)) order) j

  pub choice_renamed : (dim : ℕ) (left one right other : VType)
      → ((later : List (List ℕ × List ℕ)) → one ≡ renamed (first_name (old ++ (first ++ later))) left)
      → ((later : List (List ℕ × List ℕ)) → other ≡ renamed (first_name (mid ++ (others ++ later))) right)
      → choice dim one other ≡ renamed (first_name whole) (choice dim left right)
  choice_renamed dim left one right other is are =
      let here = is (others ++ later) ∙ ap (λ f. renamed f left) first_names in
      let there = are later ∙ ap (λ f. renamed f right) other_names in
      λ j. choice dim (here j) (there j)

  pub more_renamed : (kid one : VType) (kids all : VKids)
      → ((later : List (List ℕ × List ℕ)) → one ≡ renamed (first_name (old ++ (first ++ later))) kid)
      → ((later : List (List ℕ × List ℕ)) → all ≡ kids_renamed (first_name (mid ++ (others ++ later))) kids)
      → vkids_of one all ≡ kids_renamed (first_name whole) (vkids_of kid kids)
  more_renamed kid one kids all is are =
      let here = is (others ++ later) ∙ ap (λ f. renamed f kid) first_names in
      let there = are later ∙ ap (λ f. kids_renamed f kids) other_names in
      λ j. vkids_of (here j) (there j)

-- a type that is named by its own appearances is named by its first paths
pub is_by_first_path : (type found : VType) → ((later : List (List ℕ × List ℕ)) → found ≡ renamed (first_name ([] ++ (appearances [] type ++ later))) type) → found ≡ by_first_path type
is_by_first_path type found is =
    is [] ∙ ap (λ all. renamed (first_name all) type) (append-nil (appearances [] type))
