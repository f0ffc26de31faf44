use Rattle.std.proofs.Common.{◌≡◌, ◌+◌, length, reverse}
use Rattle.std.specs.Option.{option_map}
use Rattle.vt_scope.specs.Scopes.{found}
use Rattle.vt_scope.proofs.ScopeLists.{away}
use Rattle.vt_scope.proofs.scope.Scope.find.Given as goal

abbrev pub invariant-loop-binder : goal.invariant-loop-binder
invariant-loop-binder l = record {
  found_is : found (reverse l.initial.rest) l.name ≡ option_map (away l.distance) (found (reverse l.rest) l.name);
  count : length l.rest + l.distance ≡ length l.initial.rest;
}

abbrev pub decreases-loop-binder : goal.decreases-loop-binder
decreases-loop-binder l = length l.rest
