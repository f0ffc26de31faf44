use Rattle.std.specs.Prelude.{◌≡◌, ℕ, ◌⊎◌, ◌<◌, ◌≤◌, List, length}
use Rattle.vt_type.specs.declared.vtype.VType.{VType}
use Rattle.vt_type.specs.Variational.{HasError, nodes}
use Rattle.vt_type.specs.Constants.{core_constants}
use Rattle.vt_type.specs.NormalForm.{IsNormalFormOf}
use Rattle.vt_type.specs.Text.{text_of}
use Rattle.vt_syntax.specs.declared.core_program.CoreProgram.{CoreProgram}
use Rattle.vt_rules.specs.Meaning.{Means, PartMeans}
use Rattle.vt_report.specs.Lines.{line}
use Rattle.vt_top.specs.declared.status.Status.{Status}
use Rattle.vt_top.specs.declared.status.Status.TheVariants.{Done, Untyped}
use Rattle.vt_top.specs.declared.typing.TypeFault.{TypeFault}
use Rattle.vt_top.specs.declared.typing.TypeFault.TheVariants.{TooBig, Memory}
use Rattle.vt_top.specs.Parts.{most_nodes, IsFitting, IsTooBig, IsFirstTooBig, part_name}

-- What the steps between a program in scope and its answer give.

-- Why no type of a program is printed: the first part whose type is too big. That memory ran out says
-- nothing of the program.
abbrev pub IsTypeFault : CoreProgram → TypeFault → Type 0
IsTypeFault core (TooBig name) = (part : ℕ) × IsFirstTooBig core part × (name ≡ part_name core part)
IsTypeFault core Memory = Unit {0}

-- the same of one part
abbrev pub IsPartFault : CoreProgram → ℕ → TypeFault → Type 0
IsPartFault core part (TooBig name) = IsTooBig core part × (name ≡ part_name core part)
IsPartFault core part Memory = Unit {0}

-- the normal form of what a part means, which may be printed
pub record IsPartType (core : CoreProgram) (part : ℕ) (type : VType) : Type 0 where
  pub normal : IsNormalFormOf type (PartMeans core_constants core part)
  pub small : nodes type ≤ most_nodes

-- the normal form of what a program means, which may be printed; and each part before it is fitting
pub record IsMainType (core : CoreProgram) (type : VType) : Type 0 where
  pub parts : (part : ℕ) → part < length core.defs → IsFitting core part
  pub normal : IsNormalFormOf type (Means core_constants core)
  pub small : nodes type ≤ most_nodes

-- A type is printed, with the status by whether the error stands in it.
abbrev pub IsPrinted : List (List ℕ) → VType → Status → List ℕ → Type 0
IsPrinted dims type status text =
    (text ≡ line (text_of dims type)) × (((status ≡ Done) × (HasError type → ⊥)) ⊎ ((status ≡ Untyped) × HasError type))
