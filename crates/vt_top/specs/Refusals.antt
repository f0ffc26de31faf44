use Rattle.std.specs.Prelude.{◌≡◌, ℕ, ◌⊎◌, List}
use Rattle.vt_syntax.specs.declared.program.Program.{Program}
use Rattle.vt_syntax.specs.declared.core_program.CoreProgram.{CoreProgram}
use Rattle.vt_report.specs.declared.refusal.Refusal.{Refusal}
use Rattle.vt_report.specs.declared.refusal.Refusal.TheVariants.{TooBigPart}
use Rattle.vt_file.specs.Files.{IsCoreOf}
use Rattle.vt_file.specs.Refusals.{IsNoProgram}
use Rattle.vt_top.specs.Parts.{IsFirstTooBig, part_name}

-- Which refusal a file meets.

-- It is a program in scope with a part whose type is too big to be printed: the first one, by its name.
pub record IsTooBigToPrint (bytes : List ℕ) (refusal : Refusal) : Type 0 where
  pub program : Program
  pub core : CoreProgram
  pub resolved : IsCoreOf bytes program core
  pub part : ℕ
  pub first : IsFirstTooBig core part
  pub refusal_is : refusal ≡ TooBigPart (part_name core part)

-- It gives no program in scope, or it is too big to be printed.
abbrev pub IsRefused : List ℕ → Refusal → Type 0
IsRefused bytes refusal = IsNoProgram bytes refusal ⊎ IsTooBigToPrint bytes refusal
