use Rattle.std.specs.Prelude.{◌≡◌, ℕ, ◌+◌, ◌<◌, ◌≤◌, ◌⊎◌, List, length, Option, Some, None, IfSome, IsSome, IsSomeAnd, Contains}
use Rattle.vt_io.specs.Counts.{Rose}
use Rattle.vt_io.specs.Written.{GrowsBy, GrowsByPrefix}
use Rattle.vt_type.specs.declared.vtype.VType.{VType}
use Rattle.vt_type.specs.Constants.{core_constants}
use Rattle.vt_type.specs.Variational.{HasError, nodes}
use Rattle.vt_type.specs.NormalForm.{IsNormalFormOf}
use Rattle.vt_type.specs.Text.{text_of}
use Rattle.vt_syntax.specs.declared.program.Program.{Program}
use Rattle.vt_syntax.specs.declared.core_program.CoreProgram.{CoreProgram}
use Rattle.vt_scope.specs.Faults.{dims_of}
use Rattle.vt_rules.specs.Meaning.{Means}
use Rattle.vt_report.specs.declared.refusal.Refusal.{Refusal}
use Rattle.vt_report.specs.Lines.{line, refusal_line}
use Rattle.vt_file.specs.Files.{IsCoreOf}
use Rattle.vt_top.specs.declared.status.Status.{Status}
use Rattle.vt_top.specs.declared.status.Status.TheVariants.{Done, Untyped, Usage, Refused, ReadFault, WriteFault, NoMemory}
use Rattle.vt_top.specs.Lines.{usage_line, read_fault_line, no_memory_line}
use Rattle.vt_top.specs.Words.{Command, TypeOf, command_of, files_named}
use Rattle.vt_top.specs.Parts.{most_nodes, IsFitting}
use Rattle.vt_top.specs.Refusals.{IsRefused}

-- these bytes are held, where it is told what is
abbrev pub IsHeldAs : Option (List ℕ) → List ℕ → Type 0
IsHeldAs held bytes = IfSome held (λ all. all ≡ bytes)

-- The file is a program in scope, no part of it has a type that is too big, and the text is that of the
-- normal form of what the program means: at each decision the canonical principal type of the program
-- that it selects, or the error where that has none.
pub record HasTypeText (bytes : List ℕ) (type : VType) (text : List ℕ) : Type 0 where
  pub program : Program
  pub core : CoreProgram
  pub resolved : IsCoreOf bytes program core
  pub parts : (part : ℕ) → part < length core.defs → IsFitting core part
  pub normal : IsNormalFormOf type (Means core_constants core)
  pub small : nodes type ≤ most_nodes
  pub shown : text ≡ line (text_of (dims_of program) type)

-- The defined answers of a file: a status and a text.
abbrev pub FileAnswer : List ℕ → Status → List ℕ → Type 0
FileAnswer bytes Done text = (type : VType) × HasTypeText bytes type text × (HasError type → ⊥)
FileAnswer bytes Untyped text = (type : VType) × HasTypeText bytes type text × HasError type
FileAnswer bytes Refused text = (refusal : Refusal) × IsRefused bytes refusal × (text ≡ refusal_line refusal)
FileAnswer bytes other text = ⊥

-- The defined answer of the words, where nothing fails: `held` is what is held under each name.
abbrev pub Out : Option Command → (List ℕ → Option (List ℕ)) → Status → List ℕ → Type 0
Out None held status text = (status ≡ Usage) × (text ≡ usage_line)
Out (Some (TypeOf file)) held status text = (bytes : List ℕ) × IsHeldAs (held file) bytes × FileAnswer bytes status text

-- What a call meets and what it leaves: the words, what is held, and the counts of failures and what
-- was written, each before the call and after it.
pub record Call : Type 0 where
  pub words : List (List ℕ)
  pub held : List ℕ → Option (List ℕ)
  pub read_faults : List ℕ → ℕ
  pub read_faults_after : List ℕ → ℕ
  pub write_faults : ℕ
  pub write_faults_after : ℕ
  pub written : Option (List ℕ)
  pub written_after : Option (List ℕ)

-- a call, from what it meets and what it leaves
abbrev pub call_of : List (List ℕ) → (List ℕ → Option (List ℕ)) → (List ℕ → ℕ) → (List ℕ → ℕ) → ℕ → ℕ → Option (List ℕ) → Option (List ℕ) → Call
call_of words held read_faults read_faults_after write_faults write_faults_after written written_after = record {
  words = words;
  held = held;
  read_faults = read_faults;
  read_faults_after = read_faults_after;
  write_faults = write_faults;
  write_faults_after = write_faults_after;
  written = written;
  written_after = written_after;
}

-- The answer that is handed to the sink: the defined one; or that a file could not be read, which comes
-- only where the failures of a file that the words name rose in this call; or want of memory.
abbrev pub Prepares : Call → Status → List ℕ → Type 0
Prepares call ReadFault text =
    (file : List ℕ) × Contains (files_named (command_of call.words)) file
    × Rose (call.read_faults file) (call.read_faults_after file) × (text ≡ read_fault_line)
Prepares call NoMemory text = text ≡ no_memory_line
Prepares call WriteFault text = ⊥
Prepares call status text = Out (command_of call.words) call.held status text

-- The answer of a call. Where the sink fails it is WriteFault, whatever the text, and a prefix of the
-- text that would have come was written; otherwise the whole text was written and nothing else.
abbrev pub Answers : Call → Status → Type 0
Answers call WriteFault =
    Rose call.write_faults call.write_faults_after
    × (status : Status) × (text : List ℕ) × Prepares call status text × GrowsByPrefix call.written call.written_after text
Answers call status = (text : List ℕ) × Prepares call status text × GrowsBy call.written call.written_after text

-- How a put of this text ended: all of it was written and the status stays, or the sink failed and a
-- prefix of it was written.
abbrev pub IsWritten : ℕ → ℕ → Option (List ℕ) → Option (List ℕ) → Status → List ℕ → Status → Type 0
IsWritten faults faults_after written written_after status text ended =
    ((ended ≡ status) × GrowsBy written written_after text)
    ⊎ ((ended ≡ WriteFault) × Rose faults faults_after × GrowsByPrefix written written_after text)

-- a count that is told now was told before, and grew by no more than this
abbrev pub GrewByAtMost : ℕ → Option ℕ → Option ℕ → Type 0
GrewByAtMost most before now = IfSome now (λ n. IsSomeAnd before (λ m. n ≤ m + most))

-- The files that are named are told, and the sink is sure to take any text that may come.
pub record IsAssured (call : Call) (sure : Option ℕ) : Type 0 where
  pub told : (file : List ℕ) → Contains (files_named (command_of call.words)) file → IsSome (call.held file)
  pub room : IsSomeAnd sure (λ room. (length no_memory_line ≤ room)
      × ((status : Status) (text : List ℕ) → Out (command_of call.words) call.held status text → length text ≤ room))

-- The defined answer was written with its status, or want of memory.
abbrev pub IsComplete : Call → Status → Type 0
IsComplete call status =
    (text : List ℕ) × GrowsBy call.written call.written_after text
    × (Out (command_of call.words) call.held status text ⊎ ((status ≡ NoMemory) × (text ≡ no_memory_line)))
