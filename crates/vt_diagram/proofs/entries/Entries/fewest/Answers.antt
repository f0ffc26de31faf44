use Rattle.std.proofs.Common.{◌*◌, ◌<◌, ◌∷◌, length, None, ap, sym, arith}
use Rattle.vt_diagram.specs.declared.entry.Entry.TheVariants.{Leaf}
use Rattle.vt_diagram.specs.Rights.{fewest_in}
use Rattle.vt_diagram.proofs.Canonical.{ordered_at}
use Rattle.vt_diagram.proofs.Entering.{first_tree, fewest_at}
use Rattle.vt_diagram.proofs.Slices.{slice_get-behind}
use Rattle.vt_diagram.proofs.entries.Entries.fewest.Goals as goal

pub returns-then-id-eq0-clause-is : goal.returns-then-id-eq0-clause-is
returns-then-id-eq0-clause-is g c = rw (← c.self.view_is, ← c.id.view_is, c.if-id-eq0.true) (ap fewest_in (sym (first_tree (64 * g.row.N) _ _ c.self.invariant.table)))

pub returns-then-id-eq0-clause-ordered : goal.returns-then-id-eq0-clause-ordered
returns-then-id-eq0-clause-ordered g c =
    let within : c.args.id < length (Leaf 0 ∷ c.self.inside.entries.items) = rw (← c.self.view_is) at c.requires in
    rw (← c.self.view_is) (ordered_at (64 * g.row.N) _ _ c.self.invariant.table c.args.id within)

pub returns-clause-is : goal.returns-clause-is
returns-clause-is g c =
    let within : c.id.inside.0 < length (Leaf 0 ∷ c.self.inside.entries.items) = rw (← c.self.view_is, ← c.id.view_is) at c.requires in
    let counted : c.id.inside.0 < length (None ∷ c.self.inside.counts.items) = omega (arith, c.self.invariant.fewest.long) in
    rw (← c.self.view_is, ← c.id.view_is)
    (fewest_at (64 * g.row.N) _ _ _ c.self.invariant _ c.index.result.now within (slice_get-behind None c.index.result.now c.self.inside.counts.items c.id.inside.0 c.if-id-eq0.false counted c.index.ensures))

pub returns-clause-ordered : goal.returns-clause-ordered
returns-clause-ordered g c =
    let within : c.args.id < length (Leaf 0 ∷ c.self.inside.entries.items) = rw (← c.self.view_is) at c.requires in
    rw (← c.self.view_is) (ordered_at (64 * g.row.N) _ _ c.self.invariant.table c.args.id within)
