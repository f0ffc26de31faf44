use Rattle.std.proofs.Common.{◌≡◌, ℕ, ◌≤◌, List, [], length, Some, None, subst, lit≤}
use Rattle.vt_lex.specs.declared.span.Span.{Span}
use Rattle.vt_lex.specs.declared.token.Token.{Token}
use Rattle.vt_lex.specs.Spans.{IsSpanIn, AreSpansIn}
use Rattle.vt_type.specs.Constants.{Constant, core_constants}
use Rattle.vt_type.specs.Variational.{most_dimensions}
use Rattle.vt_syntax.specs.declared.program.Program.{Program}
use Rattle.vt_syntax.specs.declared.core_program.CoreProgram.{CoreProgram}
use Rattle.vt_syntax.specs.declared.leaf.Leaf.{Leaf}
use Rattle.vt_syntax.specs.Scoping.{IsClosed}
use Rattle.vt_syntax.specs.Checking.{IsInCheckingOrder}
use Rattle.vt_scope.specs.declared.fault.ScopeFault.{ScopeFault}
use Rattle.vt_scope.specs.declared.fault.ScopeFault.TheVariants.{Unbound, TooManyDimensions}
use Rattle.vt_scope.specs.Faults.{IsFault, dims_of, program_events, first_fault}
use Rattle.vt_scope.specs.Cores.{HasImplied, IsCoreProgram}
use Rattle.vt_file.specs.Files.{IsProgramOf, scope_fault, IsSourceOf, IsTypable}
use Rattle.vt_file.proofs.EventPlaces.{fault_in_token}

-- The place that scope refuses is that of a token.

module _ (text : List ℕ) (tokens : List Token) (program : Program) (fault : ScopeFault) (span : Span)
    (read : IsProgramOf text tokens program) (spans : AreSpansIn text tokens) (is : IsFault (scope_fault program) fault) where
  pub unbound_is : fault ≡ Unbound span → scope_fault program ≡ Some (Unbound span)
  unbound_is e = subst (IsFault (scope_fault program)) e is

  pub unbound_in : fault ≡ Unbound span → IsSpanIn text span
  unbound_in e = fault_in_token text (IsSpanIn text) core_constants tokens program read.depth (Unbound span) read.spelled spans.inside (unbound_is e)

  pub dimension_is : fault ≡ TooManyDimensions span → scope_fault program ≡ Some (TooManyDimensions span)
  dimension_is e = subst (IsFault (scope_fault program)) e is

  pub dimension_in : fault ≡ TooManyDimensions span → IsSpanIn text span
  dimension_in e = fault_in_token text (IsSpanIn text) core_constants tokens program read.depth (TooManyDimensions span) read.spelled spans.inside (dimension_is e)

-- What is given of a program in scope.
module _ (constants : List Constant) (program : Program) (core : CoreProgram) (leaves : List Leaf) (dims : List (List ℕ)) (table : constants ≡ core_constants) where
  pub source_is : (bytes : List ℕ) (tokens : List Token) → IsProgramOf bytes tokens program → AreSpansIn bytes tokens
      → IsCoreProgram constants (dims_of program) program core leaves → dims ≡ dims_of program
      → first_fault [] (program_events constants program) ≡ None → IsSourceOf bytes program core leaves dims
  source_is bytes tokens read spans is named none = record {
    tokens = tokens;
    spans = spans;
    read = read;
    in_scope = subst (λ K. first_fault [] (program_events K program) ≡ None) table none;
    core_is = subst (λ K. IsCoreProgram K (dims_of program) program core leaves) table is;
    dims_are = named;
  }

  pub typable : (HasImplied constants → IsClosed (length constants) (length dims) core) → length dims ≤ most_dimensions → IsInCheckingOrder core → IsTypable core (length dims)
  typable closed few numbered = record {
    closed = (subst (λ K. HasImplied K → IsClosed (length K) (length dims) core) table closed) (lit≤ tt);
    few = few;
    numbered = numbered;
  }
