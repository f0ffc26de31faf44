use Rattle.std.proofs.Common.{◌≡◌, ℕ, cond, Vec, List, [], ◌∷◌, ◌++◌, map, Some, None, refl, ap, ◌∙◌}
use Rattle.std.specs.Map.{lookup}
use Rattle.std.specs.Str.{bytes_eq}
use Rattle.std.proofs.lemmas.List.{map-append}
use Rattle.indexmap.specs.IndexMap.{IndexMap, insert_entry}
use Rattle.indexmap.proofs.CallerLemmas.{insert_entry-new}

-- A map from names to cells, as the list of its entries.

abbrev pub entry_of : {Z : Type 0} → Vec ℕ Z × ℕ → List ℕ × ℕ
entry_of e = (e.0.items, e.1)

pub lookup-entry_of : {Z : Type 0} (name : List ℕ) (entries : List (Vec ℕ Z × ℕ)) → lookup (bytes_eq name) (map entry_of entries) ≡ lookup (λ (key : Vec ℕ Z). bytes_eq name key.items) entries
lookup-entry_of name [] = refl
lookup-entry_of name (e ∷ es) = ap (cond (bytes_eq name e.0.items) (Some e.1)) (lookup-entry_of name es)

-- a name that was not met goes last
pub entries-new : {Z S : Type 0} (cells : IndexMap (Vec ℕ Z) ℕ S) (new : List (Vec ℕ Z × ℕ)) (key : Vec ℕ Z) (cell : ℕ) (name : List ℕ)
    → key.items ≡ name → lookup (λ (k : Vec ℕ Z). bytes_eq name k.items) cells.entries ≡ None
    → new ≡ insert_entry (λ a b. bytes_eq a.items b.items) cells.entries key cell
    → map entry_of new ≡ map entry_of cells.entries ++ (name, cell) ∷ []
entries-new {Z} cells new key cell name k none is =
    let absent = ap (λ n. lookup (λ (x : Vec ℕ Z). bytes_eq n x.items) cells.entries) k ∙ none in
    ap (map entry_of) (is ∙ insert_entry-new (λ a b. bytes_eq a.items b.items) cells key cell absent)
    ∙ map-append entry_of cells.entries ((key, cell) ∷ []) ∙ (λ j. map entry_of cells.entries ++ (k j, cell) ∷ [])
