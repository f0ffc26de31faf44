use Rattle.std.specs.Prelude.{◌≡◌, ◌↔◌, ℕ, suc, ◌<◌, ◌≤◌, ◌*◌, Bool, true, false, List, [], ◌∷◌, ◌++◌, length, map, take, drop, slice_get, Some}
use Rattle.std.specs.List.{All}
use Rattle.vt_dec.specs.declared.side.Side.{Side}
use Rattle.vt_dec.specs.declared.side.Space.{Space}
use Rattle.vt_dec.specs.declared.fate.Fate.{Fate}
use Rattle.vt_dec.specs.declared.fate.Fate.TheVariants.{Alive}
use Rattle.vt_dec.specs.Decisions.{Region, Admits}
use Rattle.vt_syntax.specs.declared.core_expr.Form.{Form}
use Rattle.vt_syntax.specs.declared.core_program.CoreDef.{CoreDef}
use Rattle.vt_syntax.specs.declared.core_program.CoreProgram.{CoreProgram}
use Rattle.vt_syntax.specs.Programs.{nested}
use Rattle.vt_syntax.specs.Scoping.{IsScoped, HasConstants, HasDims}
use Rattle.vt_syntax.specs.Selection.{core_at, selected_core_def}
use Rattle.vt_type.specs.declared.plain.Plain.{Plain}
use Rattle.vt_type.specs.Constants.{Constant, IsTable}
use Rattle.vt_store.specs.Patterns.{fate_at}
use Rattle.vt_store.specs.Stores.{Cells, cell_count}
use Rattle.vt_store.specs.Writes.{IsOf}
use Rattle.vt_scheme.specs.declared.scheme.Scheme.{Scheme}
use Rattle.vt_scheme.specs.Schemes.{Allows, AreCells}
use Rattle.vt_infer.specs.declared.environment.Entry.{Entry}
use Rattle.vt_infer.specs.declared.environment.Entry.TheVariants.{Mono, Poly}
use Rattle.vt_infer.specs.declared.typed.Typed.{Typed}
use Rattle.vt_infer.specs.declared.work.Work.{Work}
use Rattle.vt_infer.specs.Definitions.{places_after, AreChecked, DefinitionSteps}
use Rattle.vt_infer.specs.Environments.{IsHeld, mono_cells, schemes_of}
use Rattle.vt_infer.specs.Inferred.{IsPartAt}
use Rattle.vt_infer.specs.Inferring.{IsGeneralised, solutions_at}
use Rattle.vt_infer.specs.Numbered.{IsNumberedCore, AreBefore}
use Rattle.vt_infer.specs.Places.{Place, At, Bound, Looped, env_at, HaveCells, Gives}

-- The loop over the definitions of a program.

-- the definitions that a decision selects
abbrev pub defs_at : List Side → List CoreDef → List CoreDef
defs_at decision defs = map (selected_core_def (slice_get decision)) defs

abbrev pub def_at : List Side → CoreDef → CoreDef
def_at decision def = selected_core_def (slice_get decision) def

-- A store has a solution at each decision.
abbrev pub HasSolutions : ℕ → Cells → Type 0
HasSolutions N store = (decision : List Side) → IsOf N store.space decision → (s : ℕ → Plain) × solutions_at store decision s

-- The name of a definition is known at a decision by a scheme without monos, which allows exactly its types.
abbrev pub GivesAll : {N : ℕ} → List Constant → List Side → Scheme N → Place → List Place → Type 0
GivesAll K decision scheme place places = (s : ℕ → Plain) (type : Plain) → Allows scheme decision [] type ↔ Gives K (env_at s places) place type

abbrev pub IsKnown : {N : ℕ} → List Constant → List Side → Entry N → Place → List Place → Type 0
IsKnown K decision (Mono cell) place places = ⊥
IsKnown K decision (Poly scheme originals) (At own) places = ⊥
IsKnown K decision (Poly scheme originals) (Bound bound) places = (originals ≡ []) × GivesAll K decision scheme (Bound bound) places
IsKnown K decision (Poly scheme originals) (Looped bound) places = (originals ≡ []) × GivesAll K decision scheme (Looped bound) places

abbrev pub AreKnown : {N : ℕ} → List Constant → List Side → List (Entry N) → List Place → Type 0
AreKnown K decision [] [] = Unit {0}
AreKnown K decision (entry ∷ entries) (place ∷ places) = IsKnown K decision entry place places × AreKnown K decision entries places
AreKnown K decision [] (place ∷ places) = ⊥
AreKnown K decision (entry ∷ entries) [] = ⊥

-- A definition has been looked at in a context.
pub record IsDefined (N : ℕ) (K : List Constant) (region : Region) (def : CoreDef) (result : ℕ) (old new : Work N) : Type 0 where
  pub space : new.store.space ≡ old.store.space
  pub pattern_space : new.pattern.space ≡ old.pattern.space
  pub grows : cell_count old.store ≤ cell_count new.store
  pub environment : new.environment ≡ old.environment
  pub is_cell : result < cell_count new.store
  -- what is dead stays so
  pub dead : (decision : List Side) → IsOf N old.store.space decision → (fate_at old.pattern decision ≡ Alive → ⊥) → fate_at new.pattern decision ≡ fate_at old.pattern decision
  pub here : (decision : List Side) → IsOf N old.store.space decision → Admits region decision → fate_at old.pattern decision ≡ Alive
      → (places : List Place) (first : ℕ)
      → AreKnown K decision old.environment places → HaveCells (cell_count old.store) places
      → AreBefore first places → IsNumberedCore first (core_at decision def.body) def.node
      → DefinitionSteps K (cell_count old.store) (cell_count new.store) (solutions_at old.store decision) (solutions_at new.store decision) result places (def_at decision def) first (fate_at new.pattern decision)

-- the context has all decisions of a space
abbrev pub Covers : ℕ → Region → Space → Type 0
Covers N region space = (decision : List Side) → IsOf N space decision → Admits region decision

-- each name in the expression of a definition has its binder: within that of a recursive one its own name stands too
abbrev pub IsBodyScoped : ℕ → CoreDef → Bool → Type 0
IsBodyScoped binders def false = IsScoped binders def.body.form
IsBodyScoped binders def true = IsScoped (suc binders) def.body.form

-- What a definition needs before it is looked at.
pub record IsDefinable (N : ℕ) (K : List Constant) (region : Region) (def : CoreDef) (work : Work N) : Type 0 where
  pub table : IsTable K
  pub space : region.space ≡ work.store.space
  pub pattern_space : work.pattern.space ≡ work.store.space
  pub held : IsHeld work.store work.environment
  pub scoped : IsBodyScoped (length work.environment) def def.recursive
  pub constants : HasConstants (length K) def.body.form
  pub dims : HasDims (64 * N) def.body.form

-- each name has its binder, the constants and the dimensions are so many
abbrev pub IsClosedForm : (binders constants dims : ℕ) → Form → Type 0
IsClosedForm binders constants dims form = IsScoped binders form × HasConstants constants form × HasDims dims form

-- What is known after so many definitions at one decision: the nodes of what follows come after theirs; they have types, or the
-- program that they begin fails first among them; their names are known; and so are the parts that they are.
pub record IsReachedAt {N : ℕ} (K : List Constant) (core : CoreProgram) (count : ℕ) (decision : List Side)
    (entries : List (Entry N)) (schemes : List (Scheme N)) (marks : List ℕ) (fate : Fate) : Type 0 where
  pub first : ℕ
  pub last : ℕ
  pub before : AreBefore first (places_after [] (take count (defs_at decision core.defs)))
  pub numbered : IsNumberedCore first (nested (drop count (defs_at decision core.defs)) (core_at decision core.main)) last
  pub checked : AreChecked K (take count (defs_at decision core.defs)) first fate
  pub known : fate ≡ Alive → AreKnown K decision entries (places_after [] (take count (defs_at decision core.defs)))
  pub parts : (part : ℕ) (scheme : Scheme N) (mark : ℕ) → slice_get schemes part ≡ Some scheme → slice_get marks part ≡ Some mark
      → (mark < first) × IsPartAt K core part decision scheme mark fate

-- What is known after so many definitions.
pub record IsReached (N : ℕ) (K : List Constant) (core : CoreProgram) (space : Space) (count : ℕ) (work : Work N) (marks : List ℕ) : Type 0 where
  pub store_space : work.store.space ≡ space
  pub pattern_space : work.pattern.space ≡ space
  pub held : IsHeld work.store work.environment
  pub names : length work.environment ≡ count
  pub monos : mono_cells work.environment ≡ []
  pub closed : IsClosedForm count (length K) (64 * N) (nested (drop count core.defs) core.main).form
  pub scheme_count : length (schemes_of work.environment) ≡ count
  pub schemes_are : All (λ scheme. (scheme.cells.space ≡ space) × AreCells scheme) (schemes_of work.environment)
  pub marks_are : marks ≡ map (λ def. def.node) (take count core.defs)
  pub at : (decision : List Side) → IsOf N space decision → IsReachedAt K core count decision work.environment (schemes_of work.environment) marks (fate_at work.pattern decision)

-- One more definition: its cell, its mark, and its name with its scheme.
pub record IsAdded (N : ℕ) (K : List Constant) (region : Region) (def : CoreDef) (old new : Work N) (marks later : List ℕ) : Type 0 where
  pub between : Work N
  pub root : ℕ
  pub defined : IsDefined N K region def root old between
  pub solvable : HasSolutions N old.store
  pub solvable_after : HasSolutions N between.store
  pub store : new.store ≡ between.store
  pub pattern : new.pattern ≡ between.pattern
  pub generalised : IsGeneralised N between.store root between.environment new.environment
  pub marks_are : later ≡ marks ++ def.node ∷ []

-- What was found out, with the schemes that the environment holds at the end.
abbrev pub typed_of : {N : ℕ} → Work N → (marks : List ℕ) (main : ℕ) (leaf_cells : List ℕ) → Typed N
typed_of work marks main leaf_cells = record {
  store = work.store;
  pattern = work.pattern;
  main = main;
  schemes = schemes_of work.environment;
  marks = marks;
  leaf_cells = leaf_cells;
}

-- Nothing is known yet.
pub record IsStarted (N : ℕ) (space : Space) (work : Work N) : Type 0 where
  pub store_space : work.store.space ≡ space
  pub pattern_space : work.pattern.space ≡ space
  pub environment : work.environment ≡ []
  pub alive : (decision : List Side) → IsOf N space decision → fate_at work.pattern decision ≡ Alive
