use Rattle.std.specs.Prelude.{◌≡◌, ◌↔◌, ℕ, List, map}
use Rattle.vt_dec.specs.declared.side.Side.{Side}
use Rattle.vt_dec.specs.declared.fate.Fate.{Fate}
use Rattle.vt_dec.specs.declared.fate.Fate.TheVariants.{Alive, Dead}
use Rattle.vt_dec.specs.Decisions.{Region, Admits}
use Rattle.vt_type.specs.declared.plain.Plain.{Plain}
use Rattle.vt_store.specs.Patterns.{FateMap, fate_at}
use Rattle.vt_store.specs.Stores.{Cells, cell_count}
use Rattle.vt_store.specs.Writes.{IsOf}
use Rattle.vt_infer.specs.Steps.{Solutions}
use Rattle.vt_infer.specs.Inferring.{solutions_at, GoesOn}

-- What is left where some cells are to have the types of others: the solutions in which they have, or death at the node.
abbrev pub EquatesAll : Solutions → Solutions → List ℕ → List ℕ → ℕ → Fate → Type 0
EquatesAll A B copies originals node Alive = (s : ℕ → Plain) → B s ↔ (A s × (map s copies ≡ map s originals))
EquatesAll A B copies originals node (Dead own) = (own ≡ node) × ((s : ℕ → Plain) → A s → map s copies ≡ map s originals → ⊥)

-- Cells made one with others, each with the one at its place: a decision of the context that was alive, and at which no solution
-- gives them the same types, is dead with the node.
pub record AreEquated (N : ℕ) (region : Region) (copies originals : List ℕ) (node : ℕ) (old new : Cells) (before after : FateMap) : Type 0 where
  pub goes_on : GoesOn N region old new before after
  pub cells : cell_count new ≡ cell_count old
  pub here : (decision : List Side) → IsOf N old.space decision → Admits region decision → fate_at before decision ≡ Alive
      → EquatesAll (solutions_at old decision) (solutions_at new decision) copies originals node (fate_at after decision)
