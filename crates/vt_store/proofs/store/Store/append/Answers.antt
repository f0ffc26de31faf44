use Rattle.std.proofs.Common.{◌≡◌, ◌++◌, ◌∙◌, ap, sym, subst, refl, map, length, rules, arith, List}
use Rattle.std.specs.List.{All}
use Rattle.vt_store.specs.declared.diagram.Diagram.{Diagram}
use Rattle.vt_store.specs.Diagrams.{raised, HasRoom, IsDiagram}
use Rattle.vt_store.specs.Stores.{Cells}
use Rattle.vt_store.proofs.Cells.{All-each}
use Rattle.vt_store.proofs.Appending.{HasCells-room, IsAppended-both, IsStore-append}
use Rattle.vt_store.proofs.store.Store.append.Goals as goal

pub raised_copies-requires : goal.raised_copies-requires
raised_copies-requires g c =
    let by : c.len-by.result ≡ length c.self.inside.cells.items = search rules in
    let small = c.self.inside.cells.small in
    let rest = c.deref.type_inv in
    subst (λ (cells : List Diagram). All (HasRoom c.len-by.result) cells) (sym c.deref.ensures.value)
    (All-each (IsDiagram g.row.N (length c.other.inside.cells.items)) (HasRoom c.len-by.result) c.other.inside.cells.items
    (λ diagram h. HasCells-room (length c.other.inside.cells.items) c.len-by.result diagram (omega (arith, by)) h.cells) c.other.invariant.diagrams)

pub invariant_of-self-2 : goal.invariant_of-self-2
invariant_of-self-2 g c =
    let by : c.len-by.result ≡ length c.self.inside.cells.items = search rules in
    let other : Cells = record { cells = c.other.inside.cells.items; space = c.other.inside.space; spare = 0 } in
    let added : c.append.new.self.items ≡ c.self.inside.cells.items ++ map (raised (length c.self.inside.cells.items)) c.other.inside.cells.items =
    c.in_ok-append.ensures.items ∙ ap (λ (more : List Diagram). c.self.inside.cells.items ++ more) (c.in_ok-copies.ensures ∙ ap (map (raised c.len-by.result)) c.deref.ensures.value ∙ ap (λ n. map (raised n) c.other.inside.cells.items) by)
    in
    let spaces = rw (← c.self.view_is, ← c.other.view_is) at c.requires in
    IsStore-append g.row.N _ other _ added refl spaces c.other.invariant c.self.invariant

pub returns-clause-ok : goal.returns-clause-ok
returns-clause-ok g c =
    let by : c.len-by.result ≡ length c.self.inside.cells.items = search rules in
    let added : c.append.new.self.items ≡ c.self.inside.cells.items ++ map (raised (length c.self.inside.cells.items)) c.other.inside.cells.items =
    c.in_ok-append.ensures.items ∙ ap (λ (more : List Diagram). c.self.inside.cells.items ++ more) (c.in_ok-copies.ensures ∙ ap (map (raised c.len-by.result)) c.deref.ensures.value ∙ ap (λ n. map (raised n) c.other.inside.cells.items) by)
    in
    let other : Cells = record { cells = c.other.inside.cells.items; space = c.other.inside.space; spare = 0 } in
    let spaces = rw (← c.self.view_is, ← c.other.view_is) at c.requires in
    let old : Cells = record { cells = c.self.inside.cells.items; space = c.self.inside.space; spare = 0 } in
    let new : Cells = record { cells = c.append.new.self.items; space = c.self.inside.space; spare = 0 } in
    let whole = IsAppended-both g.row.N old other new added refl spaces c.other.invariant in
    rw (← c.self.view_is, ← c.other.view_is) (by, record { count = whole.count; kept = whole.kept; added = whole.added; space = refl })
