use Rattle.std.proofs.Common.{◌≡◌, ℕ, ◌<◌, bit_and, get_or}
use Rattle.vt_dec.proofs.dim_set.DimSet.cuts.Given as goal

abbrev pub invariant-loop-index : goal.invariant-loop-index
invariant-loop-index g l =
    (k : ℕ) → k < l.index → get_or l.kept-inside.words k 0 ≡ bit_and (get_or l.whole-inside.words k 0) (get_or l.self-inside.words k 0)
