use Rattle.std.specs.Prelude.{◌≡◌, ℕ, zero, suc, ◌<◌, List, length, map, Contains}
use Rattle.std.specs.List.{All}
use Rattle.vt_type.specs.declared.head.Head.{Head}
use Rattle.vt_type.specs.Plain.{arity}

-- What follows speaks of one decision: there are n cells, and a function gives each cell's end.

-- What a cell is bound to: nothing, another cell, or a head over cells.
pub data CellEnd : Type 0 where
  Free : CellEnd
  Same : (cell : ℕ) → CellEnd
  Made : (head : Head) (kids : List ℕ) → CellEnd

-- each cell that an end names has the property
abbrev pub EachCell : (ℕ → Type 0) → CellEnd → Type 0
EachCell P Free = Unit {0}
EachCell P (Same cell) = P cell
EachCell P (Made head kids) = All P kids

-- the end with every cell replaced
abbrev pub mapped_end : (ℕ → ℕ) → CellEnd → CellEnd
mapped_end by Free = Free
mapped_end by (Same cell) = Same (by cell)
mapped_end by (Made head kids) = Made head (map by kids)

-- every way down from a cell has at most `most` cells, each of them one of the n
abbrev pub EndsWithin : (n : ℕ) (e : ℕ → CellEnd) (most : ℕ) → ℕ → Type 0
EndsWithin n e zero cell = ⊥
EndsWithin n e (suc most) cell = (cell < n) × EachCell (EndsWithin n e most) (e cell)

-- no cell contains itself: no way down is longer than there are cells
abbrev pub IsAcyclic : ℕ → (ℕ → CellEnd) → Type 0
IsAcyclic n e = (cell : ℕ) → cell < n → EndsWithin n e n cell

-- a head has as many children as its arity
abbrev pub HasArity : CellEnd → Type 0
HasArity Free = Unit {0}
HasArity (Same cell) = Unit {0}
HasArity (Made head kids) = length kids ≡ arity head

abbrev pub AreArities : ℕ → (ℕ → CellEnd) → Type 0
AreArities n e = (cell : ℕ) → cell < n → HasArity (e cell)

-- an end names this cell
abbrev pub NamesCell : CellEnd → ℕ → Type 0
NamesCell Free cell = ⊥
NamesCell (Same own) cell = own ≡ cell
NamesCell (Made head kids) cell = Contains kids cell

-- the outer cell is the inner one, or contains it
pub data Reaches (e : ℕ → CellEnd) : ℕ → ℕ → Type 0 where
  itself : (cell : ℕ) → Reaches e cell cell
  through : (outer next inner : ℕ) → NamesCell (e outer) next → Reaches e next inner → Reaches e outer inner
