use Rattle.std.proofs.Common.{◌≡◌, ℕ, ◌<◌, ◌≤◌, bit_or, get_or}
use Rattle.vt_dec.specs.Words.{AreWords}
use Rattle.vt_dec.proofs.dim_set.DimSet.union.Given as goal

abbrev pub invariant-loop-index : goal.invariant-loop-index
invariant-loop-index g l = record {
  held : AreWords g.row.N l.words;
  joined : (k : ℕ) → k < l.index → get_or l.words k 0 ≡ bit_or (get_or l.initial.words k 0) (get_or l.other-inside.words k 0);
  rest : (k : ℕ) → l.index ≤ k → get_or l.words k 0 ≡ get_or l.initial.words k 0;
}
