use Rattle.std.proofs.Common.{◌<◌, List, length, refl, subst, sym}
use Rattle.std.specs.List.{All}
use Rattle.vt_store.specs.declared.diagram.Diagram.{Diagram}
use Rattle.vt_store.specs.Stores.{Cells}
use Rattle.vt_store.specs.Parts.{AreTaken}
use Rattle.vt_store.proofs.Parting.{found_within, IsStore-taken, IsPart-taken}
use Rattle.vt_store.proofs.store.Store.part.Goals as goal

pub taken-requires-clause-within : goal.taken-requires-clause-within
taken-requires-clause-within g c =
    let cells = rw (← c.self.view_is) at c.requires.cells in
    let root = rw (← c.self.view_is) at c.requires.root in
    subst (λ (diagrams : List Diagram). All (λ cell. cell < length diagrams) c.enter.new.self) (sym c.deref.ensures.value)
    (found_within (length c.self.inside.cells.items) c.args.root c.in_ok-root.root _ _ _ c.args.cells.now _ c.new-found.ensures c.in_ok-cells.ensures c.in_ok-root.ensures cells root)

pub invariant_of-store : goal.invariant_of-store
invariant_of-store g c =
    let whole : Cells = record { cells = c.self.inside.cells.items; space = c.self.inside.space; spare = 0 } in
    let new : Cells = record { cells = c.in_ok-diagrams.diagrams.items; space = c.self.inside.space; spare = 0 } in
    IsStore-taken g.row.N whole new _ _ c.self.invariant
    (subst (λ (diagrams : List Diagram). AreTaken diagrams c.enter.new.self c.taken.new.found c.in_ok-diagrams.diagrams.items) c.deref.ensures.value c.in_ok-diagrams.ensures) refl

pub returns : goal.returns
returns g c =
    let whole : Cells = record { cells = c.self.inside.cells.items; space = c.self.inside.space; spare = 0 } in
    let taken = subst (λ (diagrams : List Diagram). AreTaken diagrams c.enter.new.self c.taken.new.found c.in_ok-diagrams.diagrams.items) c.deref.ensures.value c.in_ok-diagrams.ensures in
    let new : Cells = record { cells = c.in_ok-diagrams.diagrams.items; space = c.self.inside.space; spare = 0 } in
    let made = IsPart-taken g.row.N whole new _ _ c.self.invariant taken refl _ _ _ _ _ _ c.in_ok-cells.ensures c.in_ok-root.ensures in
    rw (← c.self.view_is)
    (record {
      part = record {
        space = refl;
        origin = made.origin;
        cells_are = made.cells_are;
        root_is = made.root_is;
        cells_within = made.cells_within;
        root_within = made.root_within;
        ends = made.ends;
      };
    })
