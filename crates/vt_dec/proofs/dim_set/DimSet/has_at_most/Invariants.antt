use Rattle.std.proofs.Common.{◌≡◌, ◌+◌, drop}
use Rattle.vt_dec.proofs.WordBits.{size_of}
use Rattle.vt_dec.proofs.dim_set.DimSet.has_at_most.Given as goal

-- what is left, and what is to come: together the bound, less the size
abbrev pub invariant-loop-word : goal.invariant-loop-word
invariant-loop-word g l = l.left + size_of l.word-items ≡ l.bound + size_of (drop l.word-index l.word-items)
