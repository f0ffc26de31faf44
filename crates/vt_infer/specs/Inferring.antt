use Rattle.std.specs.Prelude.{◌≡◌, ℕ, ◌*◌, ◌<◌, ◌≤◌, List, ◌∷◌, length, map, slice_get, Some}
use Rattle.vt_dec.specs.declared.side.Side.{Side}
use Rattle.vt_dec.specs.declared.fate.Fate.TheVariants.{Alive}
use Rattle.vt_dec.specs.Decisions.{Region, Admits}
use Rattle.vt_syntax.specs.declared.core_expr.Core.{Core}
use Rattle.vt_syntax.specs.declared.core_expr.Form.{Form}
use Rattle.vt_syntax.specs.Scoping.{IsScoped, HasConstants, HasDims}
use Rattle.vt_syntax.specs.Selection.{core_at}
use Rattle.vt_type.specs.declared.plain.Plain.{Plain}
use Rattle.vt_type.specs.Plain.{IsInstance}
use Rattle.vt_type.specs.Constants.{Constant, IsTable, HasClosed}
use Rattle.vt_scheme.specs.Schemes.{Allows, IsFrozen}
use Rattle.vt_scheme.specs.declared.scheme.Scheme.{Scheme}
use Rattle.vt_store.specs.Patterns.{FateMap, fate_at}
use Rattle.vt_store.specs.Solutions.{Solves}
use Rattle.vt_store.specs.Stores.{Cells, cell_count, ends_at}
use Rattle.vt_store.specs.Writes.{IsOf}
use Rattle.vt_infer.specs.Places.{Place}
use Rattle.vt_infer.specs.Numbered.{IsNumberedCore, AreBefore}
use Rattle.vt_infer.specs.Steps.{Solutions, Keeps, Adds, Joins, Equates, Steps}
use Rattle.vt_infer.specs.Environments.{IsHeld, AreMeant, mono_cells}
use Rattle.vt_infer.specs.declared.work.Work.{Work}
use Rattle.vt_infer.specs.declared.environment.Entry.{Entry}
use Rattle.vt_infer.specs.declared.environment.Entry.TheVariants.{Mono, Poly}

-- the solutions of a store at a decision
abbrev pub solutions_at : Cells → List Side → Solutions
solutions_at store decision = Solves (cell_count store) (ends_at store decision)

-- How a store and its pattern go on: there are no fewer cells, the spaces stay, what is dead stays so, and outside of a context
-- fates stay, and solutions, on the cells that were there.
pub record GoesOn (N : ℕ) (region : Region) (old new : Cells) (before after : FateMap) : Type 0 where
  pub space : new.space ≡ old.space
  pub pattern_space : after.space ≡ before.space
  pub grows : cell_count old ≤ cell_count new
  pub dead : (decision : List Side) → IsOf N old.space decision → (fate_at before decision ≡ Alive → ⊥) → fate_at after decision ≡ fate_at before decision
  pub fates : (decision : List Side) → IsOf N old.space decision → (Admits region decision → ⊥) → fate_at after decision ≡ fate_at before decision
  pub elsewhere : (decision : List Side) → IsOf N old.space decision → (Admits region decision → ⊥)
      → Keeps (cell_count old) (cell_count new) (solutions_at old decision) (solutions_at new decision)

-- What an expression needs before it is looked at: a table of constants, a store, a pattern and a context of one space, an environment of that store, and
-- a binder for each name, an entry of the table for each constant, and a place in decisions for each dimension.
pub record IsReady (N : ℕ) (K : List Constant) (region : Region) (form : Form) (work : Work N) : Type 0 where
  pub table : IsTable K
  pub space : region.space ≡ work.store.space
  pub pattern_space : work.pattern.space ≡ work.store.space
  pub held : IsHeld work.store work.environment
  pub scoped : IsScoped (length work.environment) form
  pub constants : HasConstants (length K) form
  pub dims : HasDims (64 * N) form

-- An expression has been looked at in a context, and the environment is as before. At each decision of the context that was alive,
-- whatever places the environment means there, the result has exactly the types that the rules give what the decision selects, or
-- the decision died where that fails first.
pub record IsExpressed (N : ℕ) (K : List Constant) (region : Region) (e : Core) (result : ℕ) (old new : Work N) : Type 0 where
  pub goes_on : GoesOn N region old.store new.store old.pattern new.pattern
  pub environment : new.environment ≡ old.environment
  pub is_cell : result < cell_count new.store
  pub here : (decision : List Side) → IsOf N old.store.space decision → Admits region decision → fate_at old.pattern decision ≡ Alive
      → (places : List Place) (first last : ℕ)
      → AreMeant K (cell_count old.store) (solutions_at old.store decision) decision old.environment places
      → AreBefore first places → IsNumberedCore first (core_at decision e) last
      → Steps K (cell_count old.store) (cell_count new.store) (solutions_at old.store decision) (solutions_at new.store decision) result places (core_at decision e) first last (fate_at new.pattern decision)

-- the types that a new cell has at a decision, from those of the cells that were there
abbrev pub NewTypes : Type 1
NewTypes = List Side → (ℕ → Plain) → Plain → Type 0

-- A new cell: its types are exactly those.
pub record IsNew (N : ℕ) (types : NewTypes) (result : ℕ) (old new : Cells) : Type 0 where
  pub space : new.space ≡ old.space
  pub grows : cell_count old ≤ cell_count new
  pub is_cell : result < cell_count new
  pub adds : (decision : List Side) → IsOf N old.space decision
      → Adds (cell_count old) (cell_count new) (solutions_at old decision) (solutions_at new decision) result (types decision)

-- A new cell whose types are to be those: a decision of the context that was alive, and at which no solution has such a type, is
-- dead with the node.
pub record IsJoint (N : ℕ) (region : Region) (types : NewTypes) (node result : ℕ) (old new : Cells) (before after : FateMap) : Type 0 where
  pub goes_on : GoesOn N region old new before after
  pub is_cell : result < cell_count new
  pub some : (decision : List Side) → IsOf N old.space decision → (s : ℕ → Plain) × solutions_at old decision s
  pub here : (decision : List Side) → IsOf N old.space decision → Admits region decision → fate_at before decision ≡ Alive
      → Joins (cell_count old) (cell_count new) (solutions_at old decision) (solutions_at new decision) result (types decision) node (fate_at after decision)

-- Two cells made one: a decision of the context that was alive, and at which no solution gives them one type, is dead with the node.
pub record IsEquated (N : ℕ) (region : Region) (one other node : ℕ) (old new : Cells) (before after : FateMap) : Type 0 where
  pub goes_on : GoesOn N region old new before after
  pub cells : cell_count new ≡ cell_count old
  pub some : (decision : List Side) → IsOf N old.space decision → (s : ℕ → Plain) × solutions_at old decision s
  pub here : (decision : List Side) → IsOf N old.space decision → Admits region decision → fate_at before decision ≡ Alive
      → Equates (solutions_at old decision) (solutions_at new decision) one other node (fate_at after decision)

-- A use of a constant: its types are the instances of the closed type.
pub record IsUse (N : ℕ) (K : List Constant) (id result : ℕ) (old new : Cells) : Type 0 where
  pub closed : Plain
  pub has_closed : HasClosed K id closed
  pub is_new : IsNew N (λ decision s type. IsInstance type closed) result old new

-- A use of what an entry stands for: the cell itself, or a new cell whose types are those that the scheme allows.
abbrev pub IsUsed : (N : ℕ) → Region → Entry N → (node result : ℕ) → (old new : Cells) → (before after : FateMap) → Type 0
IsUsed N region (Mono cell) node result old new before after = (result ≡ cell) × (new ≡ old) × (after ≡ before)
IsUsed N region (Poly scheme originals) node result old new before after =
    IsJoint N region (λ decision s type. Allows scheme decision (map s originals) type) node result old new before after

-- A use of the name that was bound before so many others.
pub record IsNamed (N : ℕ) (region : Region) (entries : List (Entry N)) (distance node result : ℕ) (old new : Cells) (before after : FateMap) : Type 0 where
  pub entry : Entry N
  pub found : slice_get entries distance ≡ Some entry
  pub used : IsUsed N region entry node result old new before after

-- A new entry for a cell, by what it and the cells of the parameters in scope are.
pub record IsGeneralised (N : ℕ) (store : Cells) (root : ℕ) (entries after : List (Entry N)) : Type 0 where
  pub scheme : Scheme N
  pub frozen : IsFrozen N store (mono_cells entries) root scheme
  pub pushed : after ≡ Poly scheme (mono_cells entries) ∷ entries
