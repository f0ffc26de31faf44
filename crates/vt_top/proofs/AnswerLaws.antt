use Rattle.std.proofs.Common.{◌≡◌, ℕ, ◌+◌, ◌<◌, inl, inr, List, length, replicate, Option, Some, None, IfSome, arith, refl, sym, subst, ap, ◌∙◌}
use Rattle.std.proofs.lemmas.List.{length-replicate}
use Rattle.vt_io.specs.Written.{GrowsBy}
use Rattle.vt_top.specs.declared.status.Status.{Status}
use Rattle.vt_top.specs.declared.status.Status.TheVariants.{Done, Untyped, Usage, Refused, ReadFault, WriteFault, NoMemory}
use Rattle.vt_top.specs.declared.typing.TypeFault.TheVariants.{TooBig}
use Rattle.vt_type.specs.declared.vtype.VType.{VType}
use Rattle.vt_type.specs.Text.{text_of}
use Rattle.vt_syntax.specs.declared.program.Program.{Program}
use Rattle.vt_syntax.specs.declared.core_program.CoreProgram.{CoreProgram}
use Rattle.vt_syntax.specs.declared.leaf.Leaf.{Leaf}
use Rattle.vt_report.specs.declared.refusal.Refusal.{Refusal}
use Rattle.vt_report.specs.declared.refusal.Refusal.TheVariants.{TooBigPart}
use Rattle.vt_report.specs.Lines.{line, refusal_line}
use Rattle.vt_file.specs.Files.{IsSourceOf, IsCoreOf}
use Rattle.vt_top.specs.Words.{Command, TypeOf, command_of}
use Rattle.vt_top.specs.Refusals.{IsRefused}
use Rattle.vt_top.specs.Answers.{IsHeldAs, HasTypeText, FileAnswer, Out, Call, Prepares, Answers, IsWritten}
use Rattle.vt_top.specs.Steps.{IsTypeFault, IsMainType, IsPrinted}

no_read_fault : (command : Option Command) (held : List ℕ → Option (List ℕ)) (text : List ℕ) → Out command held ReadFault text → ⊥
no_read_fault None held text out = let e = out.0 in cc
no_read_fault (Some (TypeOf file)) held text out = out.2

no_write_fault : (command : Option Command) (held : List ℕ → Option (List ℕ)) (text : List ℕ) → Out command held WriteFault text → ⊥
no_write_fault None held text out = let e = out.0 in cc
no_write_fault (Some (TypeOf file)) held text out = out.2

no_want : (command : Option Command) (held : List ℕ → Option (List ℕ)) (text : List ℕ) → Out command held NoMemory text → ⊥
no_want None held text out = let e = out.0 in cc
no_want (Some (TypeOf file)) held text out = out.2

-- A defined answer is one that is handed to the sink.
pub out_prepares : (call : Call) (status : Status) (text : List ℕ) → Out (command_of call.words) call.held status text → Prepares call status text
out_prepares call Done text out = out
out_prepares call Untyped text out = out
out_prepares call Usage text out = out
out_prepares call Refused text out = out
out_prepares call ReadFault text out = absurd (no_read_fault (command_of call.words) call.held text out)
out_prepares call WriteFault text out = no_write_fault (command_of call.words) call.held text out
out_prepares call NoMemory text out = absurd (no_want (command_of call.words) call.held text out)

-- A text that was written whole is the answer of its status.
whole_answers : (call : Call) (status : Status) (text : List ℕ) → Prepares call status text → GrowsBy call.written call.written_after text → Answers call status
whole_answers call Done text p grew = (text, p, grew)
whole_answers call Untyped text p grew = (text, p, grew)
whole_answers call Usage text p grew = (text, p, grew)
whole_answers call Refused text p grew = (text, p, grew)
whole_answers call ReadFault text p grew = (text, p, grew)
whole_answers call WriteFault text p grew = absurd p
whole_answers call NoMemory text p grew = (text, p, grew)

-- What was handed to the sink is answered, however the put ended.
pub written_answers : (call : Call) (status : Status) (text : List ℕ) (ended : Status) → Prepares call status text → IsWritten call.write_faults call.write_faults_after call.written call.written_after status text ended → Answers call ended
written_answers call status text ended p (inl w) = subst (Answers call) (sym w.0) (whole_answers call status text p w.1)
written_answers call status text ended p (inr w) = subst (Answers call) (sym w.0) (w.1, status, text, p, w.2)

-- Bytes that are told to be too many, or any that are, where nothing is told.
pub too_long_bytes : (held : Option (List ℕ)) (limit : ℕ) → IfSome held (λ all. limit < length all) → (bytes : List ℕ) × IsHeldAs held bytes × (limit < length bytes)
too_long_bytes (Some all) limit h = (all, refl, h)
too_long_bytes None limit h = (replicate (limit + 1) 0, tt, simp length-replicate (omega arith))

-- A refusal's line, with its status, is the answer of a file that it refuses.
pub refused_answer : (bytes : List ℕ) (refusal : Refusal) (status : Status) (text : List ℕ) → IsRefused bytes refusal → (status ≡ Refused) × (text ≡ refusal_line refusal) → FileAnswer bytes status text
refused_answer bytes refusal status text refused is = subst (λ s. FileAnswer bytes s text) (sym is.0) (refusal, refused, is.1)

-- A file of a source has the core of the source.
core_of : (bytes : List ℕ) (program : Program) (core : CoreProgram) (leaves : List Leaf) (dims : List (List ℕ)) → IsSourceOf bytes program core leaves dims → IsCoreOf bytes program core
core_of bytes program core leaves dims is = record { tokens = is.tokens; read = is.read; in_scope = is.in_scope; leaves = leaves; core_is = is.core_is }

module _ (bytes : List ℕ) (program : Program) (core : CoreProgram) (leaves : List Leaf) (dims : List (List ℕ)) (source : IsSourceOf bytes program core leaves dims) where
  -- The printed type of a file is its answer.
  pub typed_answer : (type : VType) (status : Status) (text : List ℕ) → IsMainType core type → IsPrinted dims type status text → FileAnswer bytes status text
  typed_answer type status text main printed =
      let typed : HasTypeText bytes type text = record {
        program = program;
        core = core;
        resolved = core_of bytes program core leaves dims source;
        parts = main.parts;
        normal = main.normal;
        small = main.small;
        shown = printed.0 ∙ ap (λ names. line (text_of names type)) source.dims_are;
      } in
      elim (printed.1) [
        | inl done ↦ subst (λ s. FileAnswer bytes s text) (sym done.0) (type, typed, done.1)
        | inr untyped ↦ subst (λ s. FileAnswer bytes s text) (sym untyped.0) (type, typed, untyped.1)
      ]

  -- A part that is too big to be printed is what its file is refused for.
  pub too_big_refused : (name : List ℕ) → IsTypeFault core (TooBig name) → IsRefused bytes (TooBigPart name)
  too_big_refused name (part, first, named) =
      inr (record {
        program = program;
        core = core;
        resolved = core_of bytes program core leaves dims source;
        part = part;
        first = first;
        refusal_is = ap TooBigPart named;
      })
