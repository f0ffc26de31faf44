use Rattle.std.proofs.Common.{◌≡◌, ℕ, List, [], length, replicate, unwrap_or, is_some, IsSome, Option, Some, None, refl, sym, ap, ◌∙◌, lit<, true≢false}
use Rattle.std.specs.Map.{lookup}
use Rattle.std.specs.Str.{bytes_eq}
use Rattle.std.proofs.lemmas.List.{length-replicate}
use Rattle.vt_dec.specs.declared.side.Side.{Side}
use Rattle.vt_dec.specs.declared.side.Side.TheVariants.{Left}
use Rattle.vt_type.specs.declared.plain.Plain.{Plain}
use Rattle.vt_type.specs.declared.plain.Plain as plain
use Rattle.vt_type.specs.declared.vtype.VType.{VType}
use Rattle.vt_type.specs.Canonical.{first_name, occurrences, first_path, IsCanonical}
use Rattle.vt_type.specs.Variational.{most_dimensions}
use Rattle.vt_type.specs.NormalForm.{map_of, Total, IsNormalFormOf}
use Rattle.vt_type.specs.Text.{text_of, variables, distinct}
use Rattle.vt_type.proofs.Renaming.{agree-substituted}
use Rattle.vt_show.specs.Conditions.{DimsBelow, HasNoData}
use Rattle.vt_show.specs.Reading.{appearances, renamed, by_first_path, IsRead}
use Rattle.vt_show.specs.Laws.{IsCanonicalEverywhere}
use Rattle.vt_show.proofs.Renamings.{IsFound, each_found, each_weaker, names_of_appearances, renamed-same}
use Rattle.vt_show.proofs.NormalPaths.{IsFunction, appearances_of_outcome, first_at_decision, normal-well_formed}
use Rattle.vt_show.proofs.Numbered.{numbered, shown-spelled, by_first_path-numbered}

-- The text of a normal form is read as that normal form.

-- what a variable of a canonical type is called
canonical_name : (type : Plain) (name path : List ℕ) → IsCanonical type → lookup (bytes_eq name) (occurrences [] type) ≡ Some path → path ≡ name
canonical_name type name path canonical found =
    let same = agree-substituted (λ n. plain.Var (first_path type n)) [] type canonical name (ap is_some found) in
    let path_is : first_path type name ≡ name = cc in
    sym (ap (λ o. unwrap_or o name) found) ∙ path_is

module _ (type form : VType) (canonical : IsCanonicalEverywhere type) (normal : IsNormalFormOf form (map_of type)) where
  one_each : IsFunction (map_of type)
  one_each decision one other m m' = sym m ∙ m'

  some_decision : (decision : List Side) × Total decision
  some_decision = (replicate most_dimensions Left, length-replicate most_dimensions Left)

  -- a variable stands first at the path that it is named by
  first_is_name : (name path : List ℕ) → lookup (bytes_eq name) (appearances [] form) ≡ Some path → path ≡ name
  first_is_name name path found =
      let here = first_at_decision name form [] (map_of type) Total (λ decision s. s) normal some_decision path found in
      let same = appearances_of_outcome form [] (map_of type) Total one_each (λ decision s. s) normal here.0 here.1 here.2 here.3 in
      let outcome = rw here.3 at (canonical here.0 here.1) in
      canonical_name here.2 name path outcome.1 (ap (lookup (bytes_eq name)) (sym same) ∙ here.4)

  kept : (name : List ℕ) (o : Option (List ℕ)) → lookup (bytes_eq name) (appearances [] form) ≡ o → IsSome o → first_name (appearances [] form) name ≡ name
  kept name (Some path) e h = ap (λ o. unwrap_or o name) e ∙ first_is_name name path e
  kept name None e h = absurd (true≢false (sym h))

  is_by_first_path : by_first_path form ≡ form
  is_by_first_path =
      let all = appearances [] form in
      let each = each_weaker (IsFound all) (IsFound all) (λ name. first_name all name ≡ name) all (λ name h _. kept name (lookup (bytes_eq name) all) refl h) (each_found all) (each_found all) in
      renamed-same (first_name all) form (names_of_appearances (λ name. first_name all name ≡ name) [] form each)

  pub read_back : (dims : List (List ℕ)) → DimsBelow (length dims) form → HasNoData form → IsRead dims (text_of dims form) form
  read_back dims below no_data =
      let names = distinct (variables form) in
      let well = normal-well_formed form (map_of type) Total (λ decision s. s) (λ decision s outcome m. (rw m at (canonical decision s)).0) some_decision normal in
      (renamed (numbered names) form, shown-spelled dims names form 0 (lit< tt) well below no_data, sym is_by_first_path ∙ sym (by_first_path-numbered form))
