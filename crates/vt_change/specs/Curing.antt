use Rattle.std.specs.Prelude.{◌≡◌, ◌⊎◌, ℕ, ◌<◌, ◌≤◌, List, length, Option, Some, None}
use Rattle.std.specs.List.{All}
use Rattle.vt_dec.specs.declared.side.Space.TheVariants.{AtMost}
use Rattle.vt_dec.specs.declared.fate.Fate.{Fate}
use Rattle.vt_dec.specs.declared.fate.Fate.TheVariants.{Alive, Dead}
use Rattle.vt_syntax.specs.declared.core_expr.Core.{Core}
use Rattle.vt_syntax.specs.declared.core_program.CoreProgram.{CoreProgram}
use Rattle.vt_syntax.specs.declared.leaf.Leaf.{Leaf}
use Rattle.vt_syntax.specs.Varying.{program_varied}
use Rattle.vt_type.specs.declared.change.ChangeLine.{ChangeLine}
use Rattle.vt_type.specs.Constants.{Constant, IsTable}
use Rattle.vt_type.specs.Plain.{plain_nodes, IsWellFormed}
use Rattle.vt_store.specs.Stores.{cell_count}
use Rattle.vt_rules.specs.Principal.{IsTyped}
use Rattle.vt_rules.specs.Failing.{FirstFailing}
use Rattle.vt_rules.specs.Changes.{Cures, IsChangeOf}
use Rattle.vt_infer.specs.declared.typed.Typed.{Typed}
use Rattle.vt_infer.specs.Inferred.{IsInferred, AreLeafCells}

-- A program that is typed with each of its leaves left and replaced, and what is read from that.

-- what inference found out, and the leaves
pub record TypedLeaves : Type 0 where
  pub typed : Typed 32
  pub leaves : List Leaf

-- What holds whatever the program is: at most one leaf is replaced, and each has a cell.
pub record AreKept (typed : Typed 32) (leaves : List Leaf) : Type 0 where
  pub store_space : typed.store.space ≡ AtMost 1
  pub pattern_space : typed.pattern.space ≡ AtMost 1
  pub few : length leaves ≤ 2048
  pub one_each : length typed.leaf_cells ≡ length leaves
  pub main_cell : typed.main < cell_count typed.store
  pub cells : All (λ cell. cell < cell_count typed.store) typed.leaf_cells

-- It stands for a program with these leaves: the program in which each leaf is a choice between itself and a hole was typed.
pub record StandsFor (K : List Constant) (core : CoreProgram) (leaves : List Leaf) (candidates : TypedLeaves) : Type 0 where
  pub table : IsTable K
  pub same : candidates.leaves ≡ leaves
  pub few : length leaves ≤ 2048
  pub inferred : IsInferred 32 K (program_varied leaves core) (AtMost 1) candidates.typed
  pub leaf_cells : AreLeafCells 32 K (program_varied leaves core) leaves (AtMost 1) candidates.typed

-- a program is typed, or fails first at a node
abbrev pub IsFateOf : List Constant → Core → Fate → Type 0
IsFateOf K program Alive = IsTyped K program
IsFateOf K program (Dead node) = FirstFailing K program node

-- the types of a change have no more nodes than are read out
abbrev pub IsSmall : ChangeLine → Type 0
IsSmall line = (plain_nodes line.wanted ≤ 4096) × (plain_nodes line.result ≤ 4096)

abbrev pub AreFormed : ChangeLine → Type 0
AreFormed line = IsWellFormed line.wanted × IsWellFormed line.result

-- what is answered for a leaf: nothing where it does not cure, and else its change
abbrev pub IsAnswerFor : List Constant → Core → ℕ → Leaf → Option ChangeLine → Type 0
IsAnswerFor K program number leaf None = Cures K program leaf → ⊥
IsAnswerFor K program number leaf (Some line) = (line.leaf ≡ number) × IsChangeOf K program leaf line

-- the leaf cures, and a type of its change has too many nodes
abbrev pub IsTooBig : List Constant → Core → Leaf → Type 0
IsTooBig K program leaf = (line : ChangeLine) × IsChangeOf K program leaf line × (4096 < plain_nodes line.wanted ⊎ 4096 < plain_nodes line.result)
