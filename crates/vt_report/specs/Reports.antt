use Rattle.std.specs.Prelude.{◌≡◌, ℕ, ◌<◌, ◌==◌, if◌then◌else◌, List, [], ◌∷◌, ◌++◌, length, codes, decimal, Some, slice_get}
use Rattle.std.specs.List.{All}
use Rattle.vt_lex.specs.declared.place.LineCol.{LineCol}
use Rattle.vt_lex.specs.Places.{IsPlace}
use Rattle.vt_lex.specs.Spans.{IsSpanIn, word_at}
use Rattle.vt_type.specs.declared.change.ChangeLine.{ChangeLine}
use Rattle.vt_type.specs.Plain.{IsWellFormed}
use Rattle.vt_syntax.specs.declared.leaf.Leaf.{Leaf}
use Rattle.vt_show.specs.Pairs.{pair_text}
use Rattle.vt_report.specs.Lines.{line, placed}

-- The report of an ill-typed program: a heading, and then its changes, a line each.

-- the heading over so many changes
abbrev pub heading : ℕ → List ℕ
heading count = line (codes "ill typed; " ++ decimal count ++ (if count == 1 then codes " change" else codes " changes"))

-- The line of a change, over the leaves of a text: the place of its leaf, the leaf as it is spelled
-- there, and the two types.
pub record IsTold (text : List ℕ) (leaves : List Leaf) (change : ChangeLine) (told : List ℕ) : Type 0 where
  pub leaf : Leaf
  pub named : slice_get leaves change.leaf ≡ Some leaf
  pub at : LineCol
  pub place : IsPlace text leaf.span.start at
  pub told_is : told ≡ placed at (word_at text leaf.span ++ codes " " ++ pair_text change.wanted change.result)

-- the lines of changes, in their order
pub data AreTold (text : List ℕ) (leaves : List Leaf) : List ChangeLine → List ℕ → Type 0 where
  none : AreTold text leaves [] []
  one_more : (changes : List ChangeLine) (told : List ℕ) (change : ChangeLine) (own : List ℕ)
      → AreTold text leaves changes told → IsTold text leaves change own
      → AreTold text leaves (changes ++ change ∷ []) (told ++ own)

-- the report of these changes
pub record IsReport (text : List ℕ) (leaves : List Leaf) (changes : List ChangeLine) (written : List ℕ) : Type 0 where
  pub told : List ℕ
  pub lines : AreTold text leaves changes told
  pub written_is : written ≡ heading (length changes) ++ told

-- What a report is made of.

-- the spans of the leaves lie in the text
abbrev pub StandIn : List ℕ → List Leaf → Type 0
StandIn text leaves = All (λ one. IsSpanIn text one.span) leaves

-- a change of one of so many leaves, between types whose heads have their children
pub record IsChangeAmong (leaves : ℕ) (change : ChangeLine) : Type 0 where
  pub numbered : change.leaf < leaves
  pub wanted : IsWellFormed change.wanted
  pub result : IsWellFormed change.result
