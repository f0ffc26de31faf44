use Rattle.std.specs.Prelude.{◌≡◌, ℕ, ◌+◌, ◌<◌, ◌≤◌, List, length, slice_index, slice_range, All, AllPairs, IsCharBoundary}
use Rattle.vt_lex.specs.declared.span.Span.{Span}
use Rattle.vt_lex.specs.declared.token.Token.{Token}
use Rattle.vt_lex.specs.declared.token.TokenKind.TheVariants as kind
use Rattle.vt_lex.specs.Tokens.{at_sign}
use Rattle.vt_lex.specs.declared.fault.LexFault.{LexFault}
use Rattle.vt_lex.specs.declared.fault.LexFault.TheVariants.{BadCharacter, OpenString, BigNumber, Memory}

-- Where tokens and faults stand in a text.

-- The span lies in the text, and cuts no character.
pub record IsSpanIn (text : List ℕ) (span : Span) : Type 0 where
  pub ordered : span.start ≤ span.end
  pub within : span.end ≤ length text
  pub starts : IsCharBoundary text span.start
  pub ends : IsCharBoundary text span.end

-- the text of a span
abbrev pub word_at : List ℕ → Span → List ℕ
word_at text at = slice_range text at.start at.end

-- the name of a dimension, behind its at sign
abbrev pub dim_at : List ℕ → Span → List ℕ
dim_at text at = slice_range text (at.start + 1) at.end

-- The spans of the tokens lie in the text, each after the ones before it.
pub record AreSpansIn (text : List ℕ) (tokens : List Token) : Type 0 where
  pub inside : All (λ t. IsSpanIn text t.span) tokens
  pub ordered : AllPairs (λ t u. t.span.end ≤ u.span.start) tokens

-- no token's span is empty
abbrev pub AreNotEmpty : List Token → Type 0
AreNotEmpty tokens = All (λ t. t.span.start < t.span.end) tokens

-- The span holds an at sign, and that first.
pub record BeginsWithAt (text : List ℕ) (span : Span) : Type 0 where
  pub nonempty : span.start < span.end
  pub sign : slice_index text span.start ≡ at_sign

-- the span of each dimension begins with its at sign
abbrev pub BeginWithAt : List ℕ → List Token → Type 0
BeginWithAt text tokens = All (λ t. t.kind ≡ kind.Dim → BeginsWithAt text t.span) tokens

-- a place before the end of the text, at which a character begins
pub record IsPlaceIn (text : List ℕ) (at : ℕ) : Type 0 where
  pub before_end : at < length text
  pub boundary : IsCharBoundary text at

-- a fault names a place of the text
abbrev pub LiesIn : List ℕ → LexFault → Type 0
LiesIn text (BadCharacter at) = IsPlaceIn text at
LiesIn text (OpenString at) = IsPlaceIn text at
LiesIn text (BigNumber span) = IsPlaceIn text span.start
LiesIn text Memory = Unit {0}
