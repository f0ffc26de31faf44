use Rattle.std.proofs.Common.{◌≡◌, ℕ, ◌<◌, ◌⊎◌, Some, None, slice_get}
use Rattle.vt_norm.proofs.Naming.{IsOneSided}
use Rattle.vt_norm.proofs.names.open_in.Given as goal

abbrev pub invariant-loop-dim : goal.invariant-loop-dim
invariant-loop-dim l = (own : ℕ) → own < l.dim → (slice_get l.entry own ≡ Some None) ⊎ IsOneSided l.part own
