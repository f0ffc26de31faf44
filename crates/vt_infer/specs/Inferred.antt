use Rattle.std.specs.Prelude.{◌≡◌, ◌↔◌, ℕ, suc, ◌<◌, List, [], ◌∷◌, ◌++◌, length, map, slice_get, Some}
use Rattle.std.specs.List.{All}
use Rattle.vt_dec.specs.declared.side.Side.{Side}
use Rattle.vt_dec.specs.declared.side.Space.{Space}
use Rattle.vt_dec.specs.declared.fate.Fate.{Fate}
use Rattle.vt_dec.specs.declared.fate.Fate.TheVariants.{Alive, Dead}
use Rattle.vt_syntax.specs.declared.core_expr.Core.{Core}
use Rattle.vt_syntax.specs.declared.core_program.CoreProgram.{CoreProgram}
use Rattle.vt_syntax.specs.declared.leaf.Leaf.{Leaf}
use Rattle.vt_syntax.specs.Checking.{numbers_of, IsGreatest}
use Rattle.vt_syntax.specs.Programs.{whole}
use Rattle.vt_syntax.specs.Selection.{selected_core_program}
use Rattle.vt_type.specs.declared.plain.Plain.{Plain}
use Rattle.vt_type.specs.Canonical.{IsCanonical}
use Rattle.vt_type.specs.Constants.{Constant, pair}
use Rattle.vt_store.specs.Patterns.{fate_at, IsShown}
use Rattle.vt_store.specs.Solutions.{ReadsAs, PairReadsAs}
use Rattle.vt_store.specs.Stores.{cell_count, ends_at}
use Rattle.vt_store.specs.Writes.{IsOf}
use Rattle.vt_scheme.specs.declared.scheme.Scheme.{Scheme}
use Rattle.vt_scheme.specs.Schemes.{AreCells}
use Rattle.vt_rules.specs.Principal.{IsTyped, Principal, PrincipalAt}
use Rattle.vt_rules.specs.Failing.{FirstFailing}
use Rattle.vt_rules.specs.Meaning.{prefix}
use Rattle.vt_rules.specs.TypingAt.{HoldsHole}
use Rattle.vt_infer.specs.declared.typed.Typed.{Typed}

-- What inference finds out about a program: the fate of each decision, and the types of each part at the decisions
-- at which the part has one.

-- the program that a decision selects, as one expression
abbrev pub chosen : List Side → CoreProgram → Core
chosen decision program = whole (selected_core_program (slice_get decision) program)

-- What the scheme and the mark of a part say of it at a decision with a fate: the decision is shown up to the mark exactly
-- where the part has a type, and there the scheme's root reads as that.
pub record IsPartAt {N : ℕ} (K : List Constant) (core : CoreProgram) (part : ℕ) (decision : List Side) (scheme : Scheme N) (mark : ℕ) (fate : Fate) : Type 0 where
  pub shown : IsShown mark fate ↔ IsTyped K (chosen decision (prefix core part))
  pub reads : IsShown mark fate → (type : Plain)
      → ReadsAs (cell_count scheme.cells) (ends_at scheme.cells decision) scheme.root type ↔ (Principal K (chosen decision (prefix core part)) type × IsCanonical type)

-- The mark of a definition is its node, that of the main expression the greatest number of a node of it.
abbrev pub AreMarks : CoreProgram → List ℕ → Type 0
AreMarks core marks = (last : ℕ) × IsGreatest last (numbers_of core.main) × (marks ≡ map (λ def. def.node) core.defs ++ last ∷ [])

-- What is known of a program after inference in a space. A decision is alive where the program that it selects has a
-- type, and then the main cell reads as that; and it is dead with the node that fails first.
pub record IsInferred (N : ℕ) (K : List Constant) (core : CoreProgram) (space : Space) (typed : Typed N) : Type 0 where
  pub store_space : typed.store.space ≡ space
  pub pattern_space : typed.pattern.space ≡ space
  pub main_cell : typed.main < cell_count typed.store
  pub alive : (decision : List Side) → IsOf N space decision → fate_at typed.pattern decision ≡ Alive
      → IsTyped K (chosen decision core)
      × ((type : Plain) → ReadsAs (cell_count typed.store) (ends_at typed.store decision) typed.main type ↔ (Principal K (chosen decision core) type × IsCanonical type))
  pub dead : (decision : List Side) (node : ℕ) → IsOf N space decision → fate_at typed.pattern decision ≡ Dead node → FirstFailing K (chosen decision core) node
  pub scheme_count : length typed.schemes ≡ suc (length core.defs)
  pub mark_count : length typed.marks ≡ suc (length core.defs)
  pub schemes : All (λ scheme. (scheme.cells.space ≡ space) × AreCells scheme) typed.schemes
  pub marks : AreMarks core typed.marks
  pub parts : (part : ℕ) (scheme : Scheme N) (mark : ℕ) (decision : List Side)
      → slice_get typed.schemes part ≡ Some scheme → slice_get typed.marks part ≡ Some mark → IsOf N space decision
      → IsPartAt K core part decision scheme mark (fate_at typed.pattern decision)

-- The cells of the leaves that were handed in. Where a decision is alive, and the program that it selects has a hole with the number of a
-- leaf, the leaf's cell and the main cell read as the principal pair of that hole.
pub record AreLeafCells (N : ℕ) (K : List Constant) (core : CoreProgram) (leaves : List Leaf) (space : Space) (typed : Typed N) : Type 0 where
  pub count : length typed.leaf_cells ≡ length leaves
  pub cells : All (λ cell. cell < cell_count typed.store) typed.leaf_cells
  pub pairs : (place cell : ℕ) (leaf : Leaf) (decision : List Side)
      → slice_get leaves place ≡ Some leaf → slice_get typed.leaf_cells place ≡ Some cell
      → IsOf N space decision → fate_at typed.pattern decision ≡ Alive → HoldsHole leaf.node (chosen decision core).node (chosen decision core).form
      → (wanted type : Plain) → PairReadsAs (cell_count typed.store) (ends_at typed.store decision) cell typed.main wanted type
      ↔ (PrincipalAt K leaf.node (chosen decision core) wanted type × IsCanonical (pair wanted type))
