use Rattle.std.proofs.Common.{◌≡◌, ℕ, ◌-◌, ◌*◌, ◌^◌, ◌<◌, ◌≤◌, Some, true, slice_get}
use Rattle.vt_dec.specs.Words.{members}
use Rattle.vt_dec.proofs.dim_set.DimSet.next.Given as goal

-- the mask hides the bits below the first dimension, and nothing was found so far
abbrev pub invariant-loop-index : goal.invariant-loop-index
invariant-loop-index g l = record {
  hides : l.mask ≡ 2 ^ 64 - 2 ^ (l.fn.from - 64 * l.index);
  none : (dim : ℕ) → l.fn.from ≤ dim → dim < 64 * l.index → slice_get (members l.self-inside.words) dim ≡ Some true → ⊥;
}
