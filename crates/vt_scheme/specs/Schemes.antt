use Rattle.std.specs.Prelude.{◌≡◌, ◌↔◌, ℕ, ◌<◌, ◌≤◌, List, length, map}
use Rattle.std.specs.List.{All}
use Rattle.vt_dec.specs.declared.side.Side.{Side}
use Rattle.vt_type.specs.declared.plain.Plain.{Plain}
use Rattle.vt_store.specs.Solutions.{Solves}
use Rattle.vt_store.specs.Stores.{Cells, cell_count, ends_at}
use Rattle.vt_store.specs.Writes.{IsOf}
pub use Rattle.vt_store.specs.Narrowing.{HasTypes}
use Rattle.vt_scheme.specs.declared.scheme.Scheme.{Scheme}
use Rattle.vt_scheme.specs.declared.scheme.Copied.{Copied}

-- What a scheme allows at a decision: types of its monos and a type of its root that one solution of its cells gives.
abbrev pub Allows : {N : ℕ} → Scheme N → List Side → List Plain → Plain → Type 0
Allows scheme = HasTypes scheme.cells scheme.monos scheme.root

-- the monos and the root are cells of the scheme
pub record AreCells {N : ℕ} (scheme : Scheme N) : Type 0 where
  pub monos : All (λ cell. cell < cell_count scheme.cells) scheme.monos
  pub root : scheme.root < cell_count scheme.cells

-- At each decision a scheme allows what the store gives to the monos and the root.
pub record IsFrozen (N : ℕ) (store : Cells) (monos : List ℕ) (root : ℕ) (scheme : Scheme N) : Type 0 where
  pub space : scheme.cells.space ≡ store.space
  pub cells : AreCells scheme
  pub count : length scheme.monos ≡ length monos
  pub allows : (decision : List Side) → IsOf N store.space decision → (types : List Plain) (type : Plain)
      → Allows scheme decision types type ↔ HasTypes store monos root decision types type

-- two solutions agree on the first cells
abbrev pub AgreeBelow : ℕ → (ℕ → Plain) → (ℕ → Plain) → Type 0
AgreeBelow count s other = (cell : ℕ) → cell < count → other cell ≡ s cell

-- a solution of the new store that agrees with one of the old store on the old cells, and gives the copies these types
pub record ExtendsSolution (copied : Copied) (old new : Cells) (decision : List Side) (s : ℕ → Plain) (types : List Plain) (type : Plain) : Type 0 where
  pub other : ℕ → Plain
  pub solves : Solves (cell_count new) (ends_at new decision) other
  pub agrees : AgreeBelow (cell_count old) s other
  pub monos_are : map other copied.monos ≡ types
  pub root_is : other copied.root ≡ type

-- The copies of a scheme's monos and root in a store that had other cells before: at each decision the old cells have
-- their old solutions, and with each of them the copies take all types that the scheme allows, and no others.
pub record IsInstanceOf {N : ℕ} (scheme : Scheme N) (copied : Copied) (old new : Cells) : Type 0 where
  pub space : new.space ≡ old.space
  pub grows : cell_count old ≤ cell_count new
  pub monos : All (λ cell. cell < cell_count new) copied.monos
  pub root : copied.root < cell_count new
  pub count : length copied.monos ≡ length scheme.monos
  pub kept : (decision : List Side) → IsOf N old.space decision → (s : ℕ → Plain)
      → Solves (cell_count new) (ends_at new decision) s → Solves (cell_count old) (ends_at old decision) s
  pub takes : (decision : List Side) → IsOf N old.space decision → (s : ℕ → Plain)
      → Solves (cell_count new) (ends_at new decision) s → Allows scheme decision (map s copied.monos) (s copied.root)
  pub gives : (decision : List Side) → IsOf N old.space decision → (s : ℕ → Plain)
      → Solves (cell_count old) (ends_at old decision) s → (types : List Plain) (type : Plain) → Allows scheme decision types type
      → ExtendsSolution copied old new decision s types type
