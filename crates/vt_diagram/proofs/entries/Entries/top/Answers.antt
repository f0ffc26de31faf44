use Rattle.std.proofs.Common.{◌*◌, ◌<◌, ◌∷◌, length}
use Rattle.vt_diagram.specs.declared.entry.Entry.TheVariants.{Leaf}
use Rattle.vt_diagram.proofs.Entering.{first_tree, top}
use Rattle.vt_diagram.proofs.Slices.{slice_get-behind}
use Rattle.vt_diagram.proofs.entries.Entries.top.Goals as goal

pub returns-then-id-eq0 : goal.returns-then-id-eq0
returns-then-id-eq0 g c = rw (← c.self.view_is, ← c.id.view_is, c.if-id-eq0.true) (first_tree (64 * g.row.N) _ _ c.self.invariant.table)

pub returns : goal.returns
returns g c =
    let within : c.id.inside.0 < length (Leaf 0 ∷ c.self.inside.entries.items) = rw (← c.self.view_is, ← c.id.view_is) at c.requires in
    rw (← c.self.view_is, ← c.id.view_is)
    (top (64 * g.row.N) _ _ c.self.invariant.table _ _ (slice_get-behind (Leaf 0) c.index.result.now c.self.inside.entries.items c.id.inside.0 c.if-id-eq0.false within c.index.ensures))
