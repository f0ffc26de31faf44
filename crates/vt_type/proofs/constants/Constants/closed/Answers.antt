use Rattle.std.proofs.Common.{◌<◌, length}
use Rattle.std.proofs.lemmas.List.{length-map}
use Rattle.vt_type.proofs.ConstantTable.{seen_at, typed_at}
use Rattle.vt_type.proofs.constants.Constants.closed.Goals as goal

pub returns-clause-closed : goal.returns-clause-closed
returns-clause-closed c =
    let within : c.id.inside.0 < length c.self.inside.entries.items = rw (← c.self.view_is, ← c.id.view_is, length-map) at c.requires in
    rw (c.get.ensures, ← c.self.view_is, ← c.id.view_is) (seen_at c.self.inside.entries.items c.id.inside.0 c.index.result.now within c.index.ensures (λ k. k.closed))

pub returns-clause-well_formed : goal.returns-clause-well_formed
returns-clause-well_formed c =
    let within : c.id.inside.0 < length c.self.inside.entries.items = rw (← c.self.view_is, ← c.id.view_is, length-map) at c.requires in
    rw c.get.ensures (typed_at c.self.inside.entries.items c.id.inside.0 c.index.result.now within c.index.ensures c.self.invariant).0

pub returns-clause-canonical : goal.returns-clause-canonical
returns-clause-canonical c =
    let within : c.id.inside.0 < length c.self.inside.entries.items = rw (← c.self.view_is, ← c.id.view_is, length-map) at c.requires in
    rw c.get.ensures (typed_at c.self.inside.entries.items c.id.inside.0 c.index.result.now within c.index.ensures c.self.invariant).1
