use Rattle.std.proofs.Common.{◌∙◌, ◌++◌, ap, map}
use Rattle.vt_infer.specs.Mixing.{cell_in}
use Rattle.vt_infer.proofs.LeafCellLemmas.{cells_of_leaves}
use Rattle.vt_infer.proofs.leaf_cells.leaf_cells.Goals as goal

pub returns-in-Ok : goal.returns-in-Ok
returns-in-Ok g c =
    cells_of_leaves g.row.N c.args.store.now c.placed.new.store c.args.met.now c.args.leaves.now c.in_ok-known.known c.args.main c.new.result c.in_ok-known.ensures.grows c.in_ok-known.ensures.placed
    (c.new.ensures ∙ c.in-Ok.ensures ∙ ap (λ first. first ++ map (λ leaf. cell_in c.in_ok-known.known c.args.main leaf.node) c.args.leaves.now) c.new-cells.ensures.items)
