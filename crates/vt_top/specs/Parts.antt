use Rattle.std.specs.Prelude.{ℕ, ◌<◌, ◌≤◌, List, length, codes, Option, Some, None, slice_get}
use Rattle.vt_syntax.specs.declared.core_program.CoreDef.{CoreDef}
use Rattle.vt_syntax.specs.declared.core_program.CoreProgram.{CoreProgram}
use Rattle.vt_type.specs.declared.vtype.VType.{VType}
use Rattle.vt_type.specs.Constants.{core_constants}
use Rattle.vt_type.specs.Variational.{nodes}
use Rattle.vt_type.specs.NormalForm.{IsNormalFormOf}
use Rattle.vt_rules.specs.Meaning.{PartMeans}

-- Which parts of a program have a type that may be printed. The parts are the definitions, numbered from
-- 0, and then the main expression.

-- the most nodes that a printed type may have
abbrev pub most_nodes : ℕ
most_nodes = 4096

-- the normal form of what a part means has no more nodes than that
pub record IsFitting (core : CoreProgram) (part : ℕ) : Type 0 where
  pub type : VType
  pub normal : IsNormalFormOf type (PartMeans core_constants core part)
  pub small : nodes type ≤ most_nodes

-- it has more
pub record IsTooBig (core : CoreProgram) (part : ℕ) : Type 0 where
  pub type : VType
  pub normal : IsNormalFormOf type (PartMeans core_constants core part)
  pub large : most_nodes < nodes type

-- the first part of which it has more
pub record IsFirstTooBig (core : CoreProgram) (part : ℕ) : Type 0 where
  pub within : part ≤ length core.defs
  pub earlier : (other : ℕ) → other < part → IsFitting core other
  pub too_big : IsTooBig core part

-- the name of a definition; the main expression is named `-`
abbrev pub name_of : Option CoreDef → List ℕ
name_of (Some def) = def.name
name_of None = codes "-"

abbrev pub part_name : CoreProgram → ℕ → List ℕ
part_name core part = name_of (slice_get core.defs part)
