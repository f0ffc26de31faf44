use Rattle.std.proofs.Common.{◌≡◌, List, take}
use Rattle.std.specs.List.{flat_map}
use Rattle.vt_dec.specs.declared.side.Side.{Side}
use Rattle.vt_store.specs.Stores.{ends_at}
use Rattle.vt_unify.specs.Walks.{cells_of}
use Rattle.vt_unify.proofs.named.named.Given as goal

abbrev pub invariant-loop-sample : goal.invariant-loop-sample
invariant-loop-sample g l = l.cells.items ≡ flat_map (λ (sample : List Side). cells_of (ends_at l.store sample l.cell)) (take l.sample-index l.sample-items)
