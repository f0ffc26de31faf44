use Rattle.std.specs.Prelude.{◌≡◌, ℕ, ◌<◌, ◌≤◌, List, length, codes, Option, Some, None, slice_get}
use Rattle.std.specs.Str.{IsValidUpTo}
use Rattle.vt_lex.specs.declared.span.Span.{Span}
use Rattle.vt_lex.specs.declared.token.Token.{Token}
use Rattle.vt_lex.specs.declared.place.LineCol.{LineCol}
use Rattle.vt_lex.specs.declared.fault.LexFault.TheVariants as lex
use Rattle.vt_lex.specs.Lexing.{most_bytes, AreTokensOf, IsFaultOf}
use Rattle.vt_lex.specs.Places.{IsPlace}
use Rattle.vt_syntax.specs.declared.program.Program.{Program}
use Rattle.vt_lex.specs.Spans.{word_at}
use Rattle.vt_parse.specs.Answer.{IsUnexpected, IsTooDeep}
use Rattle.vt_scope.specs.declared.fault.ScopeFault.TheVariants as scope
use Rattle.vt_report.specs.declared.refusal.Refusal.{Refusal}
use Rattle.vt_report.specs.declared.refusal.Refusal.TheVariants.{TooLong, NotText, BadCharacter, OpenString, BigNumber, Unexpected, TooDeep, Unbound, TooManyDimensions}
use Rattle.vt_file.specs.declared.fault.FileFault.{FileFault}
use Rattle.vt_file.specs.declared.fault.FileFault.TheVariants.{Refused, Memory}
use Rattle.vt_file.specs.Files.{IsProgramOf, scope_fault}

-- Which refusal a file meets that gives no program in scope, in the order of reading: each comes only
-- where none before it does.

-- a token by its place and its spelling, or the end of the text
abbrev pub IsTokenAt : List ℕ → Option Token → LineCol → List ℕ → Type 0
IsTokenAt text (Some t) at spelling = IsPlace text t.span.start at × (spelling ≡ word_at text t.span)
IsTokenAt text None at spelling = IsPlace text (length text) at × (spelling ≡ codes "end of text")

abbrev pub IsNoProgram : List ℕ → Refusal → Type 0
-- more bytes than a file may have
IsNoProgram bytes TooLong = most_bytes < length bytes
-- no text: so many bytes are the longest prefix that is one
IsNoProgram bytes (NotText at) = (length bytes ≤ most_bytes) × IsValidUpTo bytes at
-- a text without tokens: the first place at which none stands
IsNoProgram bytes (BadCharacter at) =
    (byte : ℕ) × (length bytes ≤ most_bytes) × IsFaultOf bytes (lex.BadCharacter byte) × IsPlace bytes byte at
IsNoProgram bytes (OpenString at) =
    (byte : ℕ) × (length bytes ≤ most_bytes) × IsFaultOf bytes (lex.OpenString byte) × IsPlace bytes byte at
IsNoProgram bytes (BigNumber at) =
    (span : Span) × (length bytes ≤ most_bytes) × IsFaultOf bytes (lex.BigNumber span) × IsPlace bytes span.start at
-- tokens that spell no program that is admitted: the first one with which none begins
IsNoProgram bytes (Unexpected at spelling) =
    (tokens : List Token) × (k : ℕ) × (length bytes ≤ most_bytes) × AreTokensOf bytes tokens
    × IsUnexpected bytes tokens k × IsTokenAt bytes (slice_get tokens k) at spelling
IsNoProgram bytes (TooDeep at) =
    (tokens : List Token) × (k : ℕ) × (t : Token) × (length bytes ≤ most_bytes) × AreTokensOf bytes tokens
    × IsTooDeep bytes tokens k × (slice_get tokens k ≡ Some t) × IsPlace bytes t.span.start at
-- a program whose scope is at fault: what stands first in the text
IsNoProgram bytes (Unbound at name) =
    (tokens : List Token) × (program : Program) × (span : Span) × IsProgramOf bytes tokens program
    × (scope_fault program ≡ Some (scope.Unbound span)) × IsPlace bytes span.start at × (name ≡ word_at bytes span)
IsNoProgram bytes (TooManyDimensions at) =
    (tokens : List Token) × (program : Program) × (span : Span) × IsProgramOf bytes tokens program
    × (scope_fault program ≡ Some (scope.TooManyDimensions span)) × IsPlace bytes span.start at
-- any other refusal is of a program in scope
IsNoProgram bytes other = ⊥

-- the refusal that a file meets; that memory ran out says nothing of it
abbrev pub IsFileFault : List ℕ → FileFault → Type 0
IsFileFault bytes (Refused refusal) = IsNoProgram bytes refusal
IsFileFault bytes Memory = Unit {0}
