use Rattle.std.proofs.Common.{◌≡◌, ℕ, ◌<◌, List, [], ◌∷◌, length, map, refl, ap, sym, ◌∙◌}
use Rattle.std.specs.List.{All}
use Rattle.std.proofs.lemmas.List.{length-map}
use Rattle.std.proofs.lemmas.List.Elements.{All-head, All-tail}
use Rattle.std.proofs.lemmas.Simd.{map-map}
use Rattle.vt_dec.specs.declared.side.Side.{Side}
use Rattle.vt_type.specs.declared.plain.Plain.{Plain}
use Rattle.vt_store.specs.declared.store.Part.{Part}
use Rattle.vt_store.specs.Ends.{IsAcyclic, AreArities}
use Rattle.vt_store.specs.Laws.{AreSolvedAlike, IsSolvedAlike}
use Rattle.vt_store.specs.Parts.{IsPart}
use Rattle.vt_store.specs.Stores.{Cells, cell_count, ends_at}
use Rattle.vt_store.specs.Writes.{IsOf}
use Rattle.vt_scheme.specs.Schemes.{HasTypes, IsFrozen}

-- A part of a store allows what the store gives to the cells that it was made of.

-- types of cells under other numbers
pub map_moved : (s t : ℕ → Plain) (by : ℕ → ℕ) (count : ℕ) (cells : List ℕ) → ((cell : ℕ) → cell < count → t (by cell) ≡ s cell) → All (λ cell. cell < count) cells → map t (map by cells) ≡ map s cells
map_moved s t by count [] same h = refl
map_moved s t by count (cell ∷ cells) same h =
    let here = same cell (All-head (λ own. own < count) cell cells h) in
    let rest = map_moved s t by count cells same (All-tail (λ own. own < count) cell cells h) in
    λ i. here i ∷ rest i

module _ {N : ℕ} (store : Cells) (monos : List ℕ) (root : ℕ) (part : Part N) (is : IsPart store monos root part) (alike : AreSolvedAlike)
    (acyclic : (decision : List Side) → IsOf N store.space decision → IsAcyclic (cell_count store) (ends_at store decision))
    (arities : (decision : List Side) → IsOf N store.space decision → AreArities (cell_count store) (ends_at store decision)) where
  alike_at : (decision : List Side) → IsOf N store.space decision → IsSolvedAlike (cell_count part.store) (ends_at part.store decision) (cell_count store) (ends_at store decision) is.origin
  alike_at decision of = alike _ _ _ _ is.origin (is.ends decision) (acyclic decision of) (arities decision of)

  module _ (decision : List Side) (of : IsOf N store.space decision) (types : List Plain) (type : Plain) where
    wider : HasTypes part.store part.cells part.root decision types type → HasTypes store monos root decision types type
    wider has =
        let found = (alike_at decision of).widens has.s has.solves in
        record {
          s = found.wide;
          solves = found.solves;
          cells_are = ap (map found.wide) (sym is.cells_are) ∙ map_moved has.s found.wide is.origin (cell_count part.store) part.cells found.same is.cells_within ∙ has.cells_are;
          root_is = ap found.wide (sym is.root_is) ∙ found.same part.root is.root_within ∙ has.root_is;
        }

    narrower : HasTypes store monos root decision types type → HasTypes part.store part.cells part.root decision types type
    narrower has = record {
      s = λ cell. has.s (is.origin cell);
      solves = (alike_at decision of).narrows has.s has.solves;
      cells_are = sym (map-map has.s is.origin part.cells) ∙ ap (map has.s) is.cells_are ∙ has.cells_are;
      root_is = ap has.s is.root_is ∙ has.root_is;
    }

  pub IsFrozen-part : IsFrozen N store monos root (record { cells = part.store; monos = part.cells; root = part.root })
  IsFrozen-part = record {
    space = is.space;
    cells = record { monos = is.cells_within; root = is.root_within };
    count = sym (length-map part.cells is.origin) ∙ ap length is.cells_are;
    allows = λ decision of types type. (wider decision of types type, narrower decision of types type);
  }
