use Rattle.std.proofs.Common.{◌≡◌, Some, slice_get, [], lit<, ◌∙◌, sym, subst}
use Rattle.std.specs.List.{Contains}
use Rattle.vt_infer.specs.Mixing.{HaveLeafCells}
use Rattle.vt_infer.specs.Parts.{typed_of}
use Rattle.vt_infer.proofs.FoundLemmas.{gathered_begin}
use Rattle.vt_infer.proofs.LeafCellLemmas.{inferred_kept, leaf_cells_are}
use Rattle.vt_infer.proofs.SizeLemmas.{context_fits, hole_fits}
use Rattle.vt_infer.proofs.inference.all.Goals as goal

pub met-requires : goal.met-requires
met-requires g c = (lit< tt, hole_fits g.row.N c.requires.width)

pub parts-requires : goal.parts-requires
parts-requires g c = (
  lit< tt,
  (
    lit< tt,
    (
      context_fits g.row.N c.requires.width,
      (c.requires.table, (c.requires.covers, (c.requires.reached, gathered_begin g.row.N c.args.constants.now c.args.core.now c.args.within.now c.args.work.now c.in_ok-holes.holes c.in_ok-holes.ensures.met))),
    ),
  ),
)

pub leaf_cells-cells-requires : goal.leaf_cells-cells-requires
leaf_cells-cells-requires g c = (
  lit< tt,
  (
    hole_fits g.row.N c.requires.width,
    (c.in-Ok.ensures.inferred.main_cell, ((λ hole is. c.in-Ok.ensures.found.cells hole (subst (λ list. Contains list hole) c.met.ensures is)), (λ hole is. c.in-Ok.ensures.found.spaces hole (subst (λ list. Contains list hole) c.met.ensures is) ∙ sym c.in-Ok.ensures.inferred.store_space))),
  ),
)

pub returns-in_ok-cells-in-Ok-clause-inferred : goal.returns-in_ok-cells-in-Ok-clause-inferred
returns-in_ok-cells-in-Ok-clause-inferred g c =
    inferred_kept g.row.N c.args.constants.now c.args.core.now c.args.within.now.space (typed_of c.parts.new.work c.parts.new.marks c.in-Ok.main []) c.leaf_cells-cells.new.store c.in_ok-cells-in-Ok.field-0 c.in_ok-cells-in-Ok.ensures.grows c.in-Ok.ensures.inferred

pub returns-in_ok-cells-in-Ok-clause-leaf_cells : goal.returns-in_ok-cells-in-Ok-clause-leaf_cells
returns-in_ok-cells-in-Ok-clause-leaf_cells g c =
    let old = c.parts.new.work.store in
    let new = c.leaf_cells-cells.new.store in
    let cells = c.in_ok-cells-in-Ok.field-0 in
    let have : HaveLeafCells g.row.N old new c.parts.new.holes.met c.args.leaves.now cells =
    subst (λ leaves. HaveLeafCells g.row.N old new c.parts.new.holes.met leaves cells) c.as_slice-in-Ok.ensures
    (subst (λ met. HaveLeafCells g.row.N old new met c.as_slice-in-Ok.result.now cells) c.met.ensures c.in_ok-cells-in-Ok.ensures)
    in
    leaf_cells_are g.row.N c.args.constants.now c.args.core.now c.args.within.now.space (typed_of c.parts.new.work c.parts.new.marks c.in-Ok.main []) c.parts.new.holes c.in-Ok.ensures.found c.in-Ok.ensures.inferred new c.args.leaves.now cells have
    (λ place leaf is. subst (λ asked. Contains asked leaf.node) (sym c.in-Ok.ensures.asked) (c.in_ok-holes.ensures.asked place leaf (subst (λ leaves. slice_get leaves place ≡ Some leaf) (sym c.as_slice.ensures) is)))
