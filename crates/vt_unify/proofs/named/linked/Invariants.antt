use Rattle.std.proofs.Common.{◌≡◌, take}
use Rattle.std.specs.List.{AllZip}
use Rattle.vt_store.specs.Ends.{Same}
use Rattle.vt_store.specs.Stores.{ends_at}
use Rattle.vt_unify.proofs.named.linked.Given as goal

abbrev pub invariant-loop-sample : goal.invariant-loop-sample
invariant-loop-sample g l = AllZip (λ sample next. ends_at l.store sample l.cell ≡ Same next) (take l.sample-index l.sample-items) l.cells.items
