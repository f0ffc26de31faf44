use Rattle.std.specs.Prelude.{◌≡◌, ℕ, List}
use Rattle.vt_syntax.specs.declared.program.Program.{Program}
use Rattle.vt_syntax.specs.declared.core_program.CoreProgram.{CoreProgram}
use Rattle.vt_report.specs.declared.refusal.Refusal.{Refusal}
use Rattle.vt_file.specs.Files.{IsCoreOf}
use Rattle.vt_file.specs.Refusals.{IsNoProgram}

-- a file has no two programs in scope, and no two cores
abbrev pub HasOneSource : Type 0
HasOneSource = (bytes : List ℕ) (one other : Program) (c d : CoreProgram) → IsCoreOf bytes one c → IsCoreOf bytes other d → (one ≡ other) × (c ≡ d)

-- it has no two reasons to have none
abbrev pub HasOneCause : Type 0
HasOneCause = (bytes : List ℕ) (one other : Refusal) → IsNoProgram bytes one → IsNoProgram bytes other → one ≡ other

-- and none where it has a program
abbrev pub NeverReadAndRefused : Type 0
NeverReadAndRefused = (bytes : List ℕ) (refusal : Refusal) (program : Program) (core : CoreProgram) → IsNoProgram bytes refusal → IsCoreOf bytes program core → ⊥
